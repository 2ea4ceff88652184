-- The pieces of a text, cut at its line feeds, and its form.
use Rattle.std.proofs.Common.{◌≡◌, ◌≢◌, ◌⊎◌, inl, inr, ℕ, zero, suc, ◌+◌, ◌-◌, ◌<◌, ◌≤◌, ◌==◌, Bool, true, false, List, [], ◌∷◌, ◌++◌, length, take, drop, min, get_or, refl, sym, ap, ◌∙◌, subst, arith, append_assoc, append-nil, length-drop, length-take}
use Rattle.std.specs.Prelude.{if◌then◌else◌, nat_lt, Some, None}
use Rattle.std.specs.declared.option.Option.{Option}
use Rattle.std.proofs.lemmas.Bool.Decides.{Decides-eqb, Decides-ltb, leb_tells}
use Rattle.std.proofs.lemmas.List.{take_all}
use Rattle.rules_audit.specs.Lines.{Line}
use Rattle.rules_audit.specs.Form.{Form, bad_form, ended, IsForm, audit_limit, unfinished, pieces, pieces_of}
use Rattle.rules_audit.specs.Verdicts.{Verdict, is_bad_form}
use Rattle.rules_audit.specs.Audits.{IsVerdict, verdict_on}
use Rattle.mich_audit.specs.Tallies.{IsTally, IsPieceTaken, tickets_among}
use Rattle.mich_audit.specs.declared.tally.Tally.{Tally}
use Rattle.mich_audit.proofs.Tallied.{few_tickets}
use Rattle.mich_audit.specs.Pieces.{cut, HasNoFeed, IsFirstFeed}

lt_true : (a b : ℕ) → a < b → nat_lt a b ≡ true
lt_true a b h = (Decides-ltb a b).1 h

lt_false : (a b : ℕ) → b ≤ a → nat_lt a b ≡ false
lt_false a b h = by (nat_lt a b) refl where
  by : (r : Bool) → nat_lt a b ≡ r → r ≡ false
  by false e = refl
  by true e = let less : a < b = (Decides-ltb a b).0 e in absurd (omega (arith, h, less))

le_or_lt : (a b : ℕ) → (a ≤ b) ⊎ (b < a)
le_or_lt a b = by (nat_lt b a) refl where
  by : (r : Bool) → nat_lt b a ≡ r → (a ≤ b) ⊎ (b < a)
  by true e = inr ((Decides-ltb b a).0 e)
  by false e = inl (elim (leb_tells a b) [ inl h ↦ h.1 | inr h ↦ let no : true ≡ false = sym ((Decides-ltb b a).1 h.1) ∙ e in absurd cc ])

lt_more : (left : ℕ) (c : ℕ) (cs : List ℕ) → nat_lt (suc left) (length (c ∷ cs)) ≡ nat_lt left (length cs)
lt_more left c cs = by (nat_lt left (length cs)) refl where
  by : (r : Bool) → nat_lt left (length cs) ≡ r → nat_lt (suc left) (length (c ∷ cs)) ≡ r
  by true e = let less : left < length cs = (Decides-ltb left (length cs)).0 e in lt_true (suc left) (length (c ∷ cs)) (omega (arith, less))
  by false e = elim (le_or_lt (length cs) left) [
    | inl h ↦ lt_false (suc left) (length (c ∷ cs)) (omega (arith, h))
    | inr h ↦ let no : false ≡ true = sym e ∙ lt_true left (length cs) h in absurd cc
  ]

some_left : (left : ℕ) → (suc left == 0) ≡ false
some_left left = by (suc left == 0) refl where
  by : (r : Bool) → (suc left == 0) ≡ r → r ≡ false
  by false e = refl
  by true e = let zero_is : suc left ≡ 0 = (Decides-eqb (suc left) 0).0 e in absurd (omega (arith, zero_is))

one_less : (left : ℕ) → suc left - 1 ≡ left
one_less left = omega arith

take_none : (n : ℕ) → take {A = ℕ} n [] ≡ []
take_none zero = refl
take_none (suc n) = refl

pieces_cut : (left : ℕ) (begun file : List ℕ) → pieces left begun file ≡ cut (nat_lt left (length file)) begun (take left file)
pieces_cut left begun [] = sym (ap (λ b. cut b begun (take left [])) (lt_false left 0 (omega arith)) ∙ ap (λ (cs : List ℕ). cut false begun cs) (take_none left))
pieces_cut zero begun (c ∷ cs) = sym (ap (λ b. cut b begun []) (lt_true 0 (length (c ∷ cs)) (omega arith)))
pieces_cut (suc left) begun (c ∷ cs) =
    ap (λ b. if b then None ∷ [] else if c == 10 then Some begun ∷ pieces (suc left - 1) [] cs else pieces (suc left - 1) (begun ++ c ∷ []) cs) (some_left left)
    ∙ ap (λ (n : ℕ). if c == 10 then Some begun ∷ pieces n [] cs else pieces n (begun ++ c ∷ []) cs) (one_less left)
    ∙ (λ i. if c == 10 then Some begun ∷ pieces_cut left [] cs i else pieces_cut left (begun ++ c ∷ []) cs i)
    ∙ sym (ap (λ b. cut b begun (c ∷ take left cs)) (lt_more left c cs))

pub file_cut : (file : List ℕ) → pieces_of file ≡ cut (nat_lt audit_limit (length file)) [] (take audit_limit file)
file_cut file = pieces_cut audit_limit [] file

not_ten : (c : ℕ) → c ≢ 10 → (c == 10) ≡ false
not_ten c h = by (c == 10) refl where
  by : (b : Bool) → (c == 10) ≡ b → b ≡ false
  by false e = refl
  by true e = absurd (h ((Decides-eqb c 10).0 e))

pub cut_at : (longer : Bool) (begun bytes : List ℕ) (end : ℕ) → end < length bytes → get_or bytes end 0 ≡ 10 → ((k : ℕ) → k < end → get_or bytes k 0 ≢ 10)
    → cut longer begun bytes ≡ Some (begun ++ take end bytes) ∷ cut longer [] (drop 1 (drop end bytes))
cut_at longer begun [] end some here none = absurd (omega (arith, some))
cut_at longer begun (c ∷ cs) zero some here none =
    ap (λ b. if b then Some begun ∷ cut longer [] cs else cut longer (begun ++ c ∷ []) cs) ((Decides-eqb c 10).1 here)
    ∙ ap (λ (bs : List ℕ). Some bs ∷ cut longer [] cs) (sym (append-nil begun))
cut_at longer begun (c ∷ cs) (suc end) some here none =
    ap (λ b. if b then Some begun ∷ cut longer [] cs else cut longer (begun ++ c ∷ []) cs) (not_ten c (none 0 (omega arith)))
    ∙ cut_at longer (begun ++ c ∷ []) cs end (omega (arith, some)) here (λ k h. none (suc k) (omega (arith, h)))
    ∙ ap (λ (bs : List ℕ). Some bs ∷ cut longer [] (drop 1 (drop end cs))) (append_assoc begun (c ∷ []) (take end cs))

pub cut_none : (longer : Bool) (begun bytes : List ℕ) → ((k : ℕ) → k < length bytes → get_or bytes k 0 ≢ 10) → cut longer begun bytes ≡ (if longer then None ∷ [] else unfinished (begun ++ bytes))
cut_none longer begun [] none = ap (λ (bs : List ℕ). if longer then None ∷ [] else unfinished bs) (sym (append-nil begun))
cut_none longer begun (c ∷ cs) none =
    ap (λ b. if b then Some begun ∷ cut longer [] cs else cut longer (begun ++ c ∷ []) cs) (not_ten c (none 0 (omega arith)))
    ∙ cut_none longer (begun ++ c ∷ []) cs (λ k h. none (suc k) (omega (arith, h)))
    ∙ ap (λ (bs : List ℕ). if longer then None ∷ [] else unfinished bs) (append_assoc begun (c ∷ []) cs)

-- ---- the end of a text

pub end_bad : (before : List Line) (longer : Bool) (rest : List ℕ) → HasNoFeed rest → (longer ≡ true) ⊎ (0 < length rest) → IsForm before (cut longer [] rest) (bad_form (length before + 1))
end_bad before longer rest none end = subst (λ (ps : List (Option (List ℕ))). IsForm before ps (bad_form (length before + 1))) (sym (cut_none longer [] rest none)) (by longer rest end) where
  by : (longer : Bool) (rest : List ℕ) → (longer ≡ true) ⊎ (0 < length rest) → IsForm before (if longer then None ∷ [] else unfinished rest) (bad_form (length before + 1))
  by true rest end = inr ((λ l tells. absurd tells), refl)
  by false (c ∷ cs) end = inr ((λ l tells. absurd tells), refl)
  by false [] (inl e) = let no : false ≡ true = e in absurd cc
  by false [] (inr h) = absurd (omega (arith, h))

pub end_good : (before : List Line) (rest : List ℕ) → length rest ≡ 0 → IsForm before (cut false [] rest) (ended before)
end_good before [] e = refl
end_good before (c ∷ cs) e = absurd (omega (arith, e))

-- ---- lines so far

behind_is : (bs : List ℕ) → take (length bs - 1) (drop 1 bs) ≡ drop 1 bs
behind_is bs = let l : length (drop 1 bs) ≡ length bs - 1 = length-drop 1 bs in take_all (length bs - 1) (drop 1 bs) (omega (arith, l))

pub fewer_behind : (rest behind : List ℕ) (end : ℕ) → end < length rest → behind ≡ drop end rest → length (take (length behind - 1) (drop 1 behind)) < length rest
fewer_behind rest behind end h e =
    let l : length (drop 1 behind) ≡ length behind - 1 = length-drop 1 behind in
    let m : length behind ≡ length rest - end = ap length e ∙ length-drop end rest in
    let n : length (take (length behind - 1) (drop 1 behind)) ≡ length (drop 1 behind) = ap length (behind_is behind) in
    omega (arith, h, l, m, n)

pub some_bytes : (bs : List ℕ) (r : Bool) → r ≡ (length bs == 0) → r ≡ false → 0 < length bs
some_bytes [] r e f = let contrary : true ≡ false = sym e ∙ f in absurd cc
some_bytes (c ∷ cs) r e f = omega arith

-- so many lines were taken, and the form of what is left behind them is that of the whole text
pub record Reaches (bytes rest : List ℕ) (t : Tally) : Type 0 where
  pub before : List Line
  pub told : IsTally before t
  pub short : t.count + length rest ≤ audit_limit
  pub form : (f : Form) → IsForm before (cut (nat_lt audit_limit (length bytes)) [] rest) f → IsForm [] (pieces_of bytes) f

within : (n : ℕ) (xs : List ℕ) → length (take n xs) ≤ n
within n xs = let m : length (take n xs) ≡ min n (length xs) = length-take n xs in omega (arith, m)

none_more : (limit n m : ℕ) → n ≡ 0 → m ≤ limit → n + m ≤ limit
none_more limit n m e h = omega (arith, e, h)

pub reached_first : (bytes rest : List ℕ) (t : Tally) → IsTally [] t → rest ≡ take audit_limit bytes → Reaches bytes rest t
reached_first bytes rest t told e = record {
  before = [];
  told = told;
  short =
      let c : t.count ≡ 0 = told.count in
      let l : length (take audit_limit bytes) ≤ audit_limit = within audit_limit bytes in
      subst (λ (r : List ℕ). t.count + length r ≤ audit_limit) (sym e) (none_more audit_limit t.count (length (take audit_limit bytes)) c l);
  form = λ f h. subst (λ (ps : List (Option (List ℕ))). IsForm [] ps f) (sym (file_cut bytes)) (subst (λ (r : List ℕ). IsForm [] (cut (nat_lt audit_limit (length bytes)) [] r) f) e h);
}

module _ (bytes rest : List ℕ) (t : Tally) (r : Reaches bytes rest t) where
  pub bound_kept : t.tickets ≤ t.count
  bound_kept =
      let c : t.count ≡ length r.before = r.told.count in
      let e : t.tickets ≡ tickets_among r.before = r.told.tickets in
      let h : tickets_among r.before ≤ length r.before = few_tickets r.before in
      omega (arith, c, e, h)

  pub count_within : t.count ≤ audit_limit
  count_within = let h : t.count + length rest ≤ audit_limit = r.short in omega (arith, h)

  module _ (u : Tally) (end : ℕ) (feed : IsFirstFeed rest end) where
    pieces_are : cut (nat_lt audit_limit (length bytes)) [] rest ≡ Some (take end rest) ∷ cut (nat_lt audit_limit (length bytes)) [] (drop 1 (drop end rest))
    pieces_are = cut_at (nat_lt audit_limit (length bytes)) [] rest end feed.0 feed.1 feed.2

    pub reached_more : IsPieceTaken r.before (take end rest) u true → Reaches bytes (drop 1 (drop end rest)) u
    reached_more p = record {
      before = p.0 ∷ r.before;
      told = p.3;
      short =
          let c : t.count ≡ length r.before = r.told.count in
          let d : u.count ≡ suc (length r.before) = p.3.count in
          let h : t.count + length rest ≤ audit_limit = r.short in
          let s : end < length rest = feed.0 in
          let l : length (drop 1 (drop end rest)) ≡ length rest - end - 1 = length-drop 1 (drop end rest) ∙ ap (λ n. n - 1) (length-drop end rest) in
          omega (arith, c, d, h, s, l);
      form = λ f h. r.form f (subst (λ (ps : List (Option (List ℕ))). IsForm r.before ps f) (sym pieces_are) (inl (p.0, p.1, p.2, h)));
    }

    pub none_taken : IsPieceTaken r.before (take end rest) u false → IsVerdict bytes (is_bad_form (u.count + 1))
    none_taken p = (
      bad_form (length r.before + 1),
      r.form (bad_form (length r.before + 1)) (subst (λ (ps : List (Option (List ℕ))). IsForm r.before ps (bad_form (length r.before + 1))) (sym pieces_are) (inr (p.0, refl))),
      ap (λ n. is_bad_form (n + 1)) p.1,
    )

    pub none_taken_at : (piece : List ℕ) (taken : Bool) → piece ≡ take end rest → taken ≡ false → IsPieceTaken r.before piece u taken → IsVerdict bytes (is_bad_form (u.count + 1))
    none_taken_at piece taken ep et p = none_taken (subst (λ (b : Bool). IsPieceTaken r.before (take end rest) u b) et (subst (λ (bs : List ℕ). IsPieceTaken r.before bs u taken) ep p))

    pub reached_at : (piece behind : List ℕ) (taken : Bool) → piece ≡ take end rest → behind ≡ drop end rest → taken ≡ true → IsPieceTaken r.before piece u taken
        → Reaches bytes (take (length behind - 1) (drop 1 behind)) u
    reached_at piece behind taken ep eb et p =
        subst (λ (bs : List ℕ). Reaches bytes bs u) (ap (λ (bs : List ℕ). drop 1 bs) (sym eb) ∙ sym (behind_is behind))
        (reached_more (subst (λ (b : Bool). IsPieceTaken r.before (take end rest) u b) et (subst (λ (bs : List ℕ). IsPieceTaken r.before bs u taken) ep p)))

  pub at_end : (v : Verdict) → ((before : List Line) → IsTally before t → (form : Form) × IsForm before (cut (nat_lt audit_limit (length bytes)) [] rest) form × (v ≡ verdict_on form)) → IsVerdict bytes v
  at_end v h = let e = h r.before r.told in (e.0, r.form e.0 e.1, e.2)
