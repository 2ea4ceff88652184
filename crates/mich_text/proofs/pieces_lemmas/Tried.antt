-- What a `;` that was found says of the statement before it.
use Rattle.std.proofs.Common.{◌≡◌, ℕ, suc, ◌+◌, ◌-◌, ◌≤◌, ◌<◌, ◌⊎◌, inl, inr, Bool, true, false, cond, eqb, ltb, List, [], ◌∷◌, ◌++◌, length, take, drop, take-append-drop, Some, None, Ok, refl, sym, ap, subst, ◌∙◌, append_assoc, arith}
use Rattle.std.proofs.lemmas.Bool.{eqb-true, ltb-true, ltb-false}
use Rattle.std.specs.Prelude.{MatchBool}
use Rattle.std.proofs.lemmas.List.{append-nil, length-append, length-drop, length-take-le}
use Rattle.rules_text.specs.nodes.Limits.{statement_limit, file_limit}
use Rattle.rules_text.specs.nodes.Tree.{Tree}
use Rattle.rules_text.specs.declared.text.TextKind.{TextKind}
use Rattle.rules_text.specs.text.Text.{Holds, past_limit, flawed, in_comment, is_open, unexpected, too_deep, IsNode}
use Rattle.mich_base.specs.View.{tree}
use Rattle.mich_text.specs.Parts.{IsPart}
use Rattle.mich_text.specs.declared.reader.Placed.{Placed}
use Rattle.mich_text.proofs.ForCallers.{stands_cut, cut_rest, unexpected_kept, too_deep_kept}
use Rattle.mich_text.specs.declared.pieces.scan.Mode.{Mode}
use Rattle.mich_text.specs.declared.pieces.scan.Mode.TheVariants.{Outside}
use Rattle.mich_text.specs.declared.pieces.scan.Scan.{Scan}
use Rattle.mich_text.specs.pieces.Fronts.{IsClosed}
use Rattle.mich_text.specs.pieces.Marks.{mode_after, depth_after, is_sign, sign_at, first_at}
use Rattle.mich_text.specs.pieces.Scans.{begun, since_first, IsScanned}
use Rattle.mich_text.specs.pieces.Sound.{NeverClosed, IsPlaced, IsTried, IsPast, IsShort}
use Rattle.mich_text.proofs.pieces_lemmas.Ends.{sign_length, sign_of}
use Rattle.mich_text.proofs.pieces_lemmas.Firsts.{first_known, first_le}
use Rattle.mich_text.proofs.pieces_lemmas.Moved.{file_stays, long_stays}
use Rattle.mich_text.proofs.pieces_lemmas.Stays.{behind_sign, closed_stays}
use Rattle.mich_text.proofs.pieces_lemmas.Tokens.{closed_sign, open_sign}

-- ---- the `;` in a front

sign_le : (m : Mode) (d : ℕ) (text : List ℕ) → sign_at m d text ≤ length text
sign_le m d [] = omega arith
sign_le m d (c ∷ rest) = by (is_sign m d c) (sign_le (mode_after m c) (depth_after m d c) rest) where
  by : (b : Bool) → sign_at (mode_after m c) (depth_after m d c) rest ≤ length rest → cond b (suc (length rest)) (sign_at (mode_after m c) (depth_after m d c) rest) ≤ suc (length rest)
  by true h = omega arith
  by false h = omega (arith, h)

sign_cut : (m : Mode) (d : ℕ) (a b : List ℕ) (n : ℕ) → 0 < n → sign_at m d (a ++ b) ≡ n + length b → sign_at m d a ≡ n
sign_cut m d [] b n some e = absurd (omega (arith, some, e, sign_le m d b))
sign_cut m d (c ∷ a) b n some e = by (is_sign m d c) (sign_cut (mode_after m c) (depth_after m d c) a b n some) e where
  by : (t : Bool) → (sign_at (mode_after m c) (depth_after m d c) (a ++ b) ≡ n + length b → sign_at (mode_after m c) (depth_after m d c) a ≡ n) → cond t (suc (length (a ++ b))) (sign_at (mode_after m c) (depth_after m d c) (a ++ b)) ≡ n + length b
      → cond t (suc (length a)) (sign_at (mode_after m c) (depth_after m d c) a) ≡ n
  by true h e = omega (arith, e, length-append a b)
  by false h e = h e

-- ---- a statement with its `;` in a front

module _ (before : ℕ) (front more : List ℕ) (tree : Tree) (start end : ℕ) (c : IsClosed before (front ++ more) tree start end) (far : length more < length c.node.stands.rest) where
  sign_stays : 0 < length (stands_cut front more tree start end c.node.stands far).rest
  sign_stays = omega (arith, cut_rest front more tree start end c.node.stands far, far)

  clean_cut : (k : TextKind) (left : ℕ) → Holds before front k left → left ≤ end - length more
  clean_cut k left (past_limit (e, inl l)) = omega (arith, c.node.clean k (left + length more) (past_limit (e, inl (long_stays front more left l))))
  clean_cut k left (past_limit (e, inr f)) = omega (arith, c.node.clean k (left + length more) (past_limit (e, inr (file_stays before front more left f))))
  clean_cut k left (flawed q) = behind_sign before front tree (start - length more) (end - length more) (stands_cut front more tree start end c.node.stands far) sign_stays k left q
  clean_cut k left (in_comment q) = omega (arith, q.left_is)
  clean_cut k left (is_open q) = omega (arith, q.left_is)
  clean_cut k left (unexpected q) = omega (arith, c.node.clean k (left + length more) (unexpected (unexpected_kept before front more k left q)))
  clean_cut k left (too_deep q) = omega (arith, c.node.clean k (left + length more) (too_deep (too_deep_kept before front more k left q)))

  node_cut : IsClosed before front tree (start - length more) (end - length more)
  node_cut = record { node = record { stands = stands_cut front more tree start end c.node.stands far; clean = clean_cut }; sign = sign_stays }

pub closed_cut : (before : ℕ) (front more : List ℕ) (tree : Tree) (start end : ℕ) → IsClosed before (front ++ more) tree start end → length more ≤ end → IsClosed before front tree (start - length more) (end - length more)
closed_cut before front more tree start end c h =
    let sign = sign_of c.node.stands.rest end c.sign c.node.stands.ends in
    node_cut before front more tree start end c (omega (arith, sign_length c.node.stands.rest sign.0 sign.1, sign.2, h))

cut_of : (before : ℕ) (text front more : List ℕ) (tree : Tree) (start end : ℕ) → text ≡ front ++ more → (c : IsClosed before text tree start end) → length more < length c.node.stands.rest → IsNode before front tree (start - length more) (end - length more)
cut_of before text front more tree start end e =
    subst (λ (t : List ℕ). (c : IsClosed before t tree start end) → length more < length c.node.stands.rest → IsNode before front tree (start - length more) (end - length more)) (sym e) (λ c far. (node_cut before front more tree start end c far).node)

-- ---- where a `;` was found

module _ (place : ℕ) (held : List ℕ) (scan : Scan) (s : IsScanned held scan) (found : scan.found ≡ true) where
  sign_is : (more : List ℕ) → sign_at Outside 0 (held ++ more) ≡ 1 + length (drop scan.seen held ++ more)
  sign_is more = s.sign more ∙ ap (λ (b : Bool). cond b (1 + length (drop scan.seen held ++ more)) (sign_at scan.mode scan.depth (drop scan.seen held ++ more))) found

  front_sign : sign_at Outside 0 (take scan.seen held) ≡ 1
  front_sign =
      let all : take scan.seen held ++ drop scan.seen held ≡ held ++ [] = take-append-drop scan.seen held ∙ sym (append-nil held) in
      sign_cut Outside 0 (take scan.seen held) (drop scan.seen held) 1 (omega arith) (ap (sign_at Outside 0) all ∙ sign_is [] ∙ ap (λ (l : List ℕ). 1 + length l) (append-nil (drop scan.seen held)))

  -- a statement that is read is the one that ends there
  pub found_placed : (p : Placed) → IsPart place (take scan.seen held) (Ok (Some p)) → IsPlaced place held p
  found_placed p (start, end, n, start_is, end_is) =
      let c = closed_stays place (take scan.seen held) (drop scan.seen held) (tree p.node) start end (record { node = n; sign = by n.stands.rest refl }) in
      let count : length (take scan.seen held) + length (drop scan.seen held) ≡ length held = omega (arith, length-take-le scan.seen held s.within, length-drop scan.seen held, s.within) in
      record {
        start = start + length (drop scan.seen held);
        end = end + length (drop scan.seen held);
        closed = subst (λ (l : List ℕ). IsClosed place l (tree p.node) (start + length (drop scan.seen held)) (end + length (drop scan.seen held))) (take-append-drop scan.seen held) c;
        start_is = omega (arith, start_is, count);
        end_is = omega (arith, end_is, count);
      }
    where
      by : (l : List ℕ) → n.stands.rest ≡ l → 0 < length n.stands.rest
      by [] e = absurd (omega (arith, front_sign, open_sign (take scan.seen held) (tree p.node) start end n.stands e))
      by (c ∷ l) e = omega (arith, ap (λ (x : List ℕ). length x) e)

  -- where none is there, none will be
  pub found_never : ((tree : Tree) (start end : ℕ) → IsNode place (take scan.seen held) tree start end → ⊥) → NeverClosed place held
  found_never none more tree start end c =
      let text : held ++ more ≡ take scan.seen held ++ (drop scan.seen held ++ more) = ap (λ (l : List ℕ). l ++ more) (sym (take-append-drop scan.seen held)) ∙ append_assoc (take scan.seen held) (drop scan.seen held) more in
      none tree _ _ (cut_of place (held ++ more) (take scan.seen held) (drop scan.seen held ++ more) tree start end text c
      (omega (arith, sign_is more, closed_sign (held ++ more) tree start end c.node.stands c.sign)))

-- no statement has its `;`
none_closed : (place : ℕ) (held : List ℕ) → NeverClosed place held → (tree : Tree) (start end : ℕ) → IsClosed place held tree start end → ⊥
none_closed place held never tree start end c = never [] tree start end (subst (λ (l : List ℕ). IsClosed place l tree start end) (sym (append-nil held)) c)

pub never_tried : (place : ℕ) (held : List ℕ) (found : Bool) → NeverClosed place held → IsTried place held found (Ok None)
never_tried place held found never = (none_closed place held never, λ _. never)

drop_all : (n : ℕ) (l : List ℕ) → n ≡ length l → drop n l ≡ []
drop_all n l e = by (drop n l) refl where
  by : (r : List ℕ) → drop n l ≡ r → r ≡ []
  by [] f = refl
  by (c ∷ r) f = absurd (omega (arith, length-drop n l, ap (λ (x : List ℕ). length x) f, e))

-- where none was found, no statement has its `;`
pub not_found : (place : ℕ) (held : List ℕ) (scan : Scan) → IsScanned held scan → scan.found ≡ false → scan.seen ≡ length held → IsTried place held scan.found (Ok None)
not_found place held scan s none all = (λ tree start end c. absurd (omega (arith, c.sign, closed_sign held tree start end c.node.stands c.sign, nothing)), λ found. absurd (cc (sym none ∙ found))) where
  nothing : sign_at Outside 0 held ≡ 0
  nothing = ap (sign_at Outside 0) (sym (append-nil held)) ∙ s.sign []
      ∙ ap (λ (b : Bool). cond b (1 + length (drop scan.seen held ++ [])) (sign_at scan.mode scan.depth (drop scan.seen held ++ []))) none
      ∙ ap (λ (l : List ℕ). sign_at scan.mode scan.depth (l ++ [])) (drop_all scan.seen held all)

pub untried : (place : ℕ) (held : List ℕ) (scan : Scan) (hopeless : Bool) → IsScanned held scan → (scan.found ≡ false → scan.seen ≡ length held) → (hopeless ≡ true → NeverClosed place held) → (hopeless ≡ true) ⊎ (scan.found ≡ false)
    → IsTried place held scan.found (Ok None)
untried place held scan hopeless s done never (inl h) = never_tried place held scan.found (never h)
untried place held scan hopeless s done never (inr f) = not_found place held scan s f (done f)

-- ---- limits

module _ (place : ℕ) (held : List ℕ) (scan : Scan) (s : IsScanned held scan) where
  first_is : first_at Outside held ≡ begun scan (drop scan.seen held)
  first_is = ap (first_at Outside) (sym (append-nil held)) ∙ s.first [] ∙ ap (begun scan) (append-nil (drop scan.seen held))

  begun_by : (b : Bool) → eqb scan.since 0 ≡ b → begun scan (drop scan.seen held) ≡ cond b (first_at scan.mode (drop scan.seen held)) (scan.since + length (drop scan.seen held))
  begun_by b e = ap (λ (t : Bool). cond t (first_at scan.mode (drop scan.seen held)) (scan.since + length (drop scan.seen held))) e

  since_by : (b : Bool) → eqb scan.since 0 ≡ b → since_first scan (drop scan.seen held) ≡ cond b 0 (scan.since + length (drop scan.seen held))
  since_by b e = ap (λ (t : Bool). cond t 0 (scan.since + length (drop scan.seen held))) e

  -- what is counted is what there is
  counted : (scan.found ≡ false → scan.seen ≡ length held) → first_at Outside held ≡ since_first scan (drop scan.seen held)
  counted done = by (eqb scan.since 0) refl where
    no_first : scan.since ≡ 0 → scan.found ≡ false
    no_first zero = tell scan.found refl where
      tell : (f : Bool) → scan.found ≡ f → f ≡ false
      tell true e = absurd (omega (arith, s.bounded.found e, zero))
      tell false e = refl

    by : (b : Bool) → eqb scan.since 0 ≡ b → first_at Outside held ≡ since_first scan (drop scan.seen held)
    by true e =
        first_is ∙ begun_by true e ∙ ap (first_at scan.mode) (drop_all scan.seen held (done (no_first (eqb-true scan.since 0 e)))) ∙ sym (since_by true e)
    by false e = first_is ∙ begun_by false e ∙ sym (since_by false e)

  pub past_statement : (scan.found ≡ false → scan.seen ≡ length held) → statement_limit < since_first scan (drop scan.seen held) → IsPast place held
  past_statement done far =
      let n = counted done in
      let f = first_known held (omega (arith, n, far)) in
      (length f.0 - statement_limit, inl (record { first = f.0; begins = f.1; left_is = omega (arith, f.2, n, far); some = omega (arith, f.2, n, far) }))

  pub past_file : place ≤ file_limit → file_limit < place + length held → IsPast place held
  past_file near far = (place + length held - file_limit, inr (record { left_is = omega (arith, far); some = omega (arith, far); here = omega (arith, near) }))

  pub short : (scan.found ≡ false → scan.seen ≡ length held) → since_first scan (drop scan.seen held) ≤ statement_limit → place + length held ≤ file_limit → IsShort place held
  short done near within = (λ here e. first_le held here statement_limit (omega arith) (omega (arith, counted done, near)) e, within)

  pub past_or_short : (scan.found ≡ false → scan.seen ≡ length held) → place ≤ file_limit → since_first scan (drop scan.seen held) ≤ statement_limit → MatchBool (ltb 1073741824 (place + length held)) (IsPast place held) (IsShort place held)
  past_or_short done before near = by (ltb 1073741824 (place + length held)) refl where
    by : (b : Bool) → ltb 1073741824 (place + length held) ≡ b → MatchBool b (IsPast place held) (IsShort place held)
    by true e = past_file before (ltb-true 1073741824 (place + length held) e)
    by false e = short done near (ltb-false 1073741824 (place + length held) e)
