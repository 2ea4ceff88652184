-- A fault of a front that counts is the fault of each text that goes on from there.
use Rattle.std.proofs.Common.{◌≡◌, ℕ, ◌+◌, ◌-◌, ◌≤◌, ◌<◌, ◌⊎◌, inl, inr, List, [], ◌∷◌, ◌++◌, length, take, Some, Result, Err, refl, sym, ap, subst, ◌∙◌, append_assoc, arith}
use Rattle.std.proofs.lemmas.List.{length-append, take-append-le}
use Rattle.rules_text.specs.nodes.Tree.{Tree}
use Rattle.rules_text.specs.text.Fault.{Flaw}
use Rattle.rules_text.specs.text.Token.{Token}
use Rattle.rules_text.specs.text.Lexical.{token_at, first_shape}
use Rattle.rules_text.specs.declared.text.Shape.{Shape}
use Rattle.rules_text.specs.declared.text.TextKind.{TextKind}
use Rattle.rules_text.specs.text.Text.{Leads, IsLimit, Shows, IsFlawed, Holds, past_limit, flawed, in_comment, is_open, unexpected, too_deep, rank, Stands, IsFault}
use Rattle.mich_text.proofs.ForCallers.{flaw_le, token_shorter, leads_le, From, compare, same_rest, leads_on, stands_cut, unexpected_cut, too_deep_cut, unexpected_kept, too_deep_kept, split, closed_rest}
use Rattle.mich_text.specs.pieces.Fronts.{NeverWrong, Counts}
use Rattle.mich_text.proofs.pieces_lemmas.Ends.{clash}
use Rattle.mich_text.proofs.pieces_lemmas.Moved.{file_cut, limit_cut, long_cut, take_past}
use Rattle.mich_text.proofs.pieces_lemmas.Stays.{fault_stays}

-- what two bytes or more of a token show, they show with more behind them
shown_on : (here more : List ℕ) (k : TextKind) (left : ℕ) → left ≤ length here → Shows here k (length here - left) → token_at (here ++ more) ≡ Err (record { kind = k; left = left + length more })
shown_on here more k left within shows = shows more ∙ ap (λ (n : ℕ). Err (record { kind = k; left = n })) (omega (arith, within))

same_flaw : (f g : Flaw) → ◌≡◌ {A = Result (Token × List ℕ) Flaw} (Err f) (Err g) → f ≡ g
same_flaw f g e = cc e

-- a flaw lies no earlier than a place to which tokens lead
no_earlier : (before : ℕ) (text : List ℕ) (ts : List Token) (here : List ℕ) → Leads text ts (Some here) → (k : TextKind) (other : ℕ) → (q : IsFlawed before text k other) → (q.here ≡ here) ⊎ (other < length here)
no_earlier before text ts here leads k other q = elim (compare text ts here q.tokens (Some q.here) leads q.leads) [
  | inl f ↦ by f.more f.from
  | inr g ↦ absurd (clash q.here g.at g.token g.behind (record { kind = k; left = other }) (same_rest q.here g.at g.rest_is) q.wrong g.read)
] where
  by : (more : List Token) → From here more (Some q.here) → (q.here ≡ here) ⊎ (other < length here)
  by [] f = inl (same_rest q.here here f)
  by (t ∷ more) f = inr (omega (arith, (flaw_le q.here (record { kind = k; left = other }) q.wrong).0, leads_le f.0 more q.here f.2, token_shorter here f.0 t f.1))

module _ (before : ℕ) (front more : List ℕ) (k : TextKind) (left : ℕ) where
  flawed_on : (p : IsFlawed before front k left) → 1 < length p.here → Shows p.here k (length p.here - left) → IsFlawed before (front ++ more) k (left + length more)
  flawed_on p long shown =
      let within : left ≤ length p.here = (flaw_le p.here (record { kind = k; left = left }) p.wrong).0 in
      let count = length-append p.here more in
      record {
        tokens = p.tokens;
        here = p.here ++ more;
        leads = leads_on front more p.tokens p.here p.leads (inl long);
        some = omega (arith, count, long);
        wrong = shown_on p.here more k left within shown;
        shown = λ m l at. shows within count m l at (split m (length more));
      }
    where
      shows : left ≤ length p.here → length (p.here ++ more) ≡ length p.here + length more → (m : ℕ) → IsLimit before (front ++ more) m → m ≤ length (p.here ++ more) → (m ≤ length more) ⊎ (length more < m)
          → Shows (take (length (p.here ++ more) - m + 1) (p.here ++ more)) k (length (p.here ++ more) - (left + length more))
      shows within count m l at (inr far) =
          let size : length (p.here ++ more) - m + 1 ≡ length p.here - (m - length more) + 1 = omega (arith, count, far, at) in
          let piece : take (length (p.here ++ more) - m + 1) (p.here ++ more) ≡ take (length p.here - (m - length more) + 1) p.here =
          ap (λ (n : ℕ). take n (p.here ++ more)) size ∙ take-append-le (length p.here - (m - length more) + 1) p.here more (omega (arith, count, far, at)) in
          subst (λ (x : List ℕ). Shows x k (length (p.here ++ more) - (left + length more))) (sym piece)
          (subst (Shows (take (length p.here - (m - length more) + 1) p.here) k) (omega (arith, count, within)) (p.shown (m - length more) (limit_cut before front more m far l) (omega (arith, count, far, at))))
      shows within count m l at (inl short) = λ rest.
          let size = length (p.here ++ more) - m + 1 in
          let extra = take (size - length p.here) more in
          let piece : take size (p.here ++ more) ≡ p.here ++ extra = take_past p.here more size (omega (arith, count, short)) in
          let read = shown_on p.here (extra ++ rest) k left within shown in
          let whole : take size (p.here ++ more) ++ rest ≡ p.here ++ (extra ++ rest) = ap (λ (l : List ℕ). l ++ rest) piece ∙ append_assoc p.here extra rest in
          let length_is : length (take size (p.here ++ more)) ≡ length p.here + length extra = ap (λ (l : List ℕ). length l) piece ∙ length-append p.here extra in
          let place : left + length (extra ++ rest) ≡ length (take size (p.here ++ more)) + length rest - (length (p.here ++ more) - (left + length more)) = omega (arith, length-append extra rest, length_is, count, within) in
          ap token_at whole ∙ read ∙ ap (λ (n : ℕ). Err (record { kind = k; left = n })) place

  misplaced : (ts : List Token) (here : List ℕ) → Leads (front ++ more) ts (Some (here ++ more)) → left ≡ length here → NeverWrong here → (j : TextKind) (other : ℕ) → IsFlawed before (front ++ more) j other → other < left + length more
  misplaced ts here leads place never j other q = elim (no_earlier before (front ++ more) ts (here ++ more) leads j other q) [
    | inl same ↦ omega (arith, never more (record { kind = j; left = other }) (ap token_at (sym same) ∙ q.wrong), place)
    | inr behind ↦ omega (arith, behind, place, length-append here more)
  ]

  -- it comes first where each flaw of a token comes no earlier, and each other condition of the front
  comes_first : (h : Holds before front k left) (on : Holds before (front ++ more) k (left + length more)) → rank on ≡ rank h → 0 < left
      → ((j : TextKind) (other : ℕ) (q : Holds before front j other) → (other < left) ⊎ ((other ≡ left) × (rank h ≤ rank q)))
      → ((j : TextKind) (other : ℕ) → IsFlawed before (front ++ more) j other → (other < left + length more) ⊎ ((other ≡ left + length more) × (rank h ≤ 1)))
      → ((tree : Tree) (start end : ℕ) → Stands front tree start end → end < left)
      → IsFault before (front ++ more) k (left + length more)
  comes_first h on same some first flaws within = record {
    holds = on;
    first = λ j other q. elim (split other (length more)) [
      | inl behind ↦ inl (omega (arith, behind, some))
      | inr far ↦ by j other q far
    ];
    within = λ tree start end s. elim (split (left + length more) end) [
      | inl g ↦
          let long : end < length s.rest = closed_rest s.rest end s.ends (omega (arith, g, some)) in
          let less = within tree (start - length more) (end - length more) (stands_cut front more tree start end s (omega (arith, long, g))) in
          absurd (omega (arith, less, g))
      | inr g ↦ g
    ];
  } where
    cut : (j : TextKind) (other n : ℕ) → length more < other → (other - length more < left) ⊎ ((other - length more ≡ left) × (rank h ≤ n)) → (other < left + length more) ⊎ ((other ≡ left + length more) × (rank on ≤ n))
    cut j other n far (inl less) = inl (omega (arith, less, far))
    cut j other n far (inr is) = inr (omega (arith, is.0, far), omega (arith, is.1, same))

    flaw : (other : ℕ) → (other < left + length more) ⊎ ((other ≡ left + length more) × (rank h ≤ 1)) → (other < left + length more) ⊎ ((other ≡ left + length more) × (rank on ≤ 1))
    flaw other (inl less) = inl less
    flaw other (inr is) = inr (is.0, omega (arith, is.1, same))

    by : (j : TextKind) (other : ℕ) (q : Holds before (front ++ more) j other) → length more < other → (other < left + length more) ⊎ ((other ≡ left + length more) × (rank on ≤ rank q))
    by j other (past_limit (e, inl l)) far = cut j other 0 far (first j (other - length more) (past_limit (e, inl (long_cut front more other far l))))
    by j other (past_limit (e, inr f)) far = cut j other 0 far (first j (other - length more) (past_limit (e, inr (file_cut before front more other far f))))
    by j other (flawed q) far = flaw other (flaws j other q)
    by j other (in_comment q) far = absurd (omega (arith, far, q.left_is))
    by j other (is_open q) far = absurd (omega (arith, far, q.left_is))
    by j other (unexpected q) far = cut j other 2 far (first j (other - length more) (unexpected (unexpected_cut before front more j other far q)))
    by j other (too_deep q) far = cut j other 3 far (first j (other - length more) (too_deep (too_deep_cut before front more j other far q)))

  -- a token that is wrong is the last
  wrong_first : (p : IsFlawed before front k left) → 1 < length p.here → Shows p.here k (length p.here - left) → (j : TextKind) (other : ℕ) → IsFlawed before (front ++ more) j other
      → (other < left + length more) ⊎ ((other ≡ left + length more) × (1 ≤ 1))
  wrong_first p long shown j other q = inr (place, omega arith) where
    wrong : token_at (p.here ++ more) ≡ Err (record { kind = k; left = left + length more })
    wrong = shown_on p.here more k left (flaw_le p.here (record { kind = k; left = left }) p.wrong).0 shown

    by : (ts : List Token) → From (p.here ++ more) ts (Some q.here) → q.here ≡ p.here ++ more
    by [] f = same_rest q.here (p.here ++ more) f
    by (t ∷ ts) f = absurd (clash (p.here ++ more) (p.here ++ more) t f.0 (record { kind = k; left = left + length more }) refl wrong f.1)

    same : q.here ≡ p.here ++ more
    same = elim (compare (front ++ more) p.tokens (p.here ++ more) q.tokens (Some q.here) (leads_on front more p.tokens p.here p.leads (inl long)) q.leads) [
      | inl f ↦ by f.more f.from
      | inr g ↦ absurd (clash q.here g.at g.token g.behind (record { kind = j; left = other }) (same_rest q.here g.at g.rest_is) q.wrong g.read)
    ]

    place : other ≡ left + length more
    place = ap (λ (f : Flaw). f.left) (same_flaw (record { kind = j; left = other }) (record { kind = k; left = left + length more }) (sym q.wrong ∙ ap token_at same ∙ wrong))

  counted_by : (h : Holds before front k left)
      → ((j : TextKind) (other : ℕ) (q : Holds before front j other) → (other < left) ⊎ ((other ≡ left) × (rank h ≤ rank q)))
      → ((tree : Tree) (start end : ℕ) → Stands front tree start end → end < left)
      → 0 < left → Counts h → IsFault before (front ++ more) k (left + length more)
  counted_by (past_limit (e, inl l)) first within some c = fault_stays before front more left (inl l.limit) k left (record { holds = past_limit (e, inl l); first = first; within = within })
  counted_by (past_limit (e, inr f)) first within some c = fault_stays before front more left (inr f) k left (record { holds = past_limit (e, inr f); first = first; within = within })
  counted_by (flawed p) first within some c = comes_first (flawed p) (flawed (flawed_on p c.0 c.2)) refl some first (wrong_first p c.0 c.2) within
  counted_by (in_comment p) first within some c = absurd c
  counted_by (is_open p) first within some c = absurd c
  counted_by (unexpected p) first within some c =
      comes_first (unexpected p) (unexpected (unexpected_kept before front more k left p)) refl some first
      (λ j other q. inl (misplaced p.before p.here (leads_on front more p.before p.here p.leads (inr (p.shape, p.begins))) p.left_is c j other q)) within
  counted_by (too_deep p) first within some c =
      comes_first (too_deep p) (too_deep (too_deep_kept before front more k left p)) refl some first
      (λ j other q. inl (misplaced p.before p.here (leads_on front more p.before p.here p.leads (inr (p.shape, p.begins))) p.left_is c j other q)) within

-- a fault that counts lies before the end
counts_some : (before : ℕ) (front : List ℕ) (k : TextKind) (left : ℕ) (h : Holds before front k left) → Counts h → 0 < left
counts_some before front k left (past_limit (e, inl l)) c = l.limit.some
counts_some before front k left (past_limit (e, inr f)) c = f.some
counts_some before front k left (flawed p) c = c.1
counts_some before front k left (in_comment p) c = absurd c
counts_some before front k left (is_open p) c = absurd c
counts_some before front k left (unexpected p) c = some_left p.here p.shape p.begins p.left_is where
  some_left : (here : List ℕ) (shape : Shape) → first_shape here ≡ Some shape → left ≡ length here → 0 < left
  some_left [] shape e n = absurd cc
  some_left (c ∷ here) shape e n = omega (arith, n)
counts_some before front k left (too_deep p) c = some_left p.here p.shape p.begins p.left_is where
  some_left : (here : List ℕ) (shape : Shape) → first_shape here ≡ Some shape → left ≡ length here → 0 < left
  some_left [] shape e n = absurd cc
  some_left (c ∷ here) shape e n = omega (arith, n)

pub fault_counts : (before : ℕ) (front more : List ℕ) (k : TextKind) (left : ℕ) → (f : IsFault before front k left) → Counts f.holds → IsFault before (front ++ more) k (left + length more)
fault_counts before front more k left f c = counted_by before front more k left f.holds f.first f.within (counts_some before front k left f.holds c) c
