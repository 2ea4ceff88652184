-- What the front of a text up to a limit is tells what the text is.
use Rattle.std.proofs.Common.{◌≡◌, ℕ, ◌+◌, ◌-◌, ◌≤◌, ◌<◌, ◌⊎◌, inl, inr, Bool, true, false, ltb, List, [], ◌∷◌, ◌++◌, length, Some, Ok, refl, subst, arith}
use Rattle.std.proofs.lemmas.Bool.{ltb-true, ltb-false}
use Rattle.std.proofs.lemmas.List.{length-append}
use Rattle.rules_text.specs.nodes.Tree.{Tree}
use Rattle.rules_text.specs.text.Token.{Token}
use Rattle.rules_text.specs.text.Lexical.{token_at, first_shape}
use Rattle.rules_text.specs.declared.text.TextKind.{TextKind}
use Rattle.rules_text.specs.text.Syntax.{element_tokens}
use Rattle.rules_text.specs.declared.text.Shape.{Shape}
use Rattle.rules_text.specs.declared.text.Shape.TheVariants.{Semicolon}
use Rattle.rules_text.specs.text.Text.{Leads, IsLimit, IsFileLimit, EndsAt, Stands, IsFault, IsNode, rank}
use Rattle.rules_text.specs.text.Text as within
use Rattle.mich_text.specs.Plain as plain
use Rattle.mich_text.specs.Shown.{Counts}
use Rattle.mich_text.proofs.tokens.Ahead.{token_shorter}
use Rattle.mich_text.proofs.tokens.Shapes.{token_shape_is}
use Rattle.mich_text.proofs.limits.Sorts.{Sort, of_limit, own, sort_of}
use Rattle.mich_text.proofs.readings.Fed.{leads_on}
use Rattle.mich_text.proofs.limits.Conditions.{flawed_cut, unexpected_cut, too_deep_cut, flawed_kept, unexpected_kept, too_deep_kept}
use Rattle.mich_text.proofs.readings.Closed.{stands_cut, stands_kept, ends_kept}

-- a condition of the front that holds whatever follows
abbrev pub Counted : {text : List ℕ} {kind : TextKind} {left : ℕ} → plain.HoldsWithoutLimits text kind left → Type 0
Counted {kind = kind} (plain.flawed p) = Counts p.here kind
Counted (plain.in_comment p) = ⊥
Counted (plain.is_open p) = ⊥
Counted (plain.unexpected p) = Unit {0}
Counted (plain.too_deep p) = Unit {0}

pub split : (a b : ℕ) → (a ≤ b) ⊎ (b < a)
split a b = by (ltb b a) refl
  where
    by : (t : Bool) → ltb b a ≡ t → (a ≤ b) ⊎ (b < a)
    by true e = inr (ltb-true b a e)
    by false e = inl (ltb-false b a e)

pub closed_rest : (rest : List ℕ) (end : ℕ) → EndsAt rest end → 0 < end → end < length rest
closed_rest [] end p h = absurd (omega (arith, p, h))
closed_rest (c ∷ rest) end p h = omega (arith, p.2, token_shorter (c ∷ rest) p.0 Token.semicolon p.1)

module _ (before : ℕ) (front more : List ℕ) (at : ℕ) (is_limit : IsLimit before (front ++ more) at) (cuts : at ≡ 1 + length more)
    (last : (limit : ℕ) → IsLimit before (front ++ more) limit → limit ≤ at) where
  -- a condition before the limit byte is one of the front
  pub holds_cut : (k : TextKind) (left : ℕ) → at < left → within.Holds before (front ++ more) k left
      → plain.HoldsWithoutLimits front k (left - length more)
  holds_cut k left far (within.past_limit (e, inl l)) = absurd (omega (arith, far, last left (inl l.limit)))
  holds_cut k left far (within.past_limit (e, inr f)) = absurd (omega (arith, far, last left (inr f)))
  holds_cut k left far (within.flawed p) = plain.flawed (flawed_cut before front more at is_limit cuts k left (omega (arith, far, cuts)) p)
  holds_cut k left far (within.in_comment p) = absurd (omega (arith, far, p.left_is))
  holds_cut k left far (within.is_open p) = absurd (omega (arith, far, p.left_is))
  holds_cut k left far (within.unexpected p) = plain.unexpected (unexpected_cut before front more k left (omega (arith, far, cuts)) p)
  holds_cut k left far (within.too_deep p) = plain.too_deep (too_deep_cut before front more k left (omega (arith, far, cuts)) p)

  holds_kept : (k : TextKind) (left : ℕ) → 1 < left → (h : plain.HoldsWithoutLimits front k left) → Counted h
      → within.Holds before (front ++ more) k (left + length more)
  holds_kept k left far (plain.flawed p) c =
      within.flawed (flawed_kept before front more (λ limit is. omega (arith, last limit is, cuts)) k left far p c)
  holds_kept k left far (plain.in_comment p) c = absurd c
  holds_kept k left far (plain.is_open p) c = absurd c
  holds_kept k left far (plain.unexpected p) c = within.unexpected (unexpected_kept before front more k left p)
  holds_kept k left far (plain.too_deep p) c = within.too_deep (too_deep_kept before front more k left p)

  -- a fault of the front that counts is the text's
  pub fault_kept : (k : TextKind) (left : ℕ) → 1 < left → (p : plain.IsFaultWithoutLimits front k left) → Counted p.holds
      → IsFault before (front ++ more) k (left + length more)
  fault_kept k left far p c =
      let h = holds_kept k left far p.holds c in
      record {
        holds = h;
        first = λ j other q. later h (sort_of before (front ++ more) k (left + length more) h) j other q;
        within = λ tree start end s. closed tree start end s;
      } where
        ranks : (h : within.Holds before (front ++ more) k (left + length more)) → Sort before (front ++ more) k (left + length more) h
            → rank h ≡ 1 + plain.rank_without_limits k
        ranks h (own p e) = e
        ranks h (of_limit e k l) = absurd (omega (arith, last (left + length more) l, cuts, far))

        by : (h : within.Holds before (front ++ more) k (left + length more)) → rank h ≡ 1 + plain.rank_without_limits k
            → (j : TextKind) (other : ℕ) (q : within.Holds before (front ++ more) j other) → at < other
            → Sort before (front ++ more) j other q → (other - length more < left)
            ⊎ ((other - length more ≡ left) × (plain.rank_without_limits k ≤ plain.rank_without_limits j))
            → (other < left + length more) ⊎ ((other ≡ left + length more) × (rank h ≤ rank q))
        by h r j other q far_off (own p e) (inl less) = inl (omega (arith, less, far_off, cuts))
        by h r j other q far_off (own p e) (inr same) = inr (omega (arith, same.0, far_off, cuts), omega (arith, same.1, r, e))
        by h r j other q far_off (of_limit e k l) d = absurd (omega (arith, last other l, far_off))

        later : (h : within.Holds before (front ++ more) k (left + length more)) → Sort before (front ++ more) k (left + length more) h
            → (j : TextKind) (other : ℕ) (q : within.Holds before (front ++ more) j other)
            → (other < left + length more) ⊎ ((other ≡ left + length more) × (rank h ≤ rank q))
        later h o j other q = elim (split other at) [
          | inl near ↦ inl (omega (arith, near, cuts, far))
          | inr off ↦ by h (ranks h o) j other q off (sort_of before (front ++ more) j other q)
              (p.first j (other - length more) (holds_cut j other off q))
        ]

        closed : (tree : Tree) (start end : ℕ) → Stands (front ++ more) tree start end → end < left + length more
        closed tree start end s = elim (split (left + length more) end) [
          | inl h ↦
              let long : end < length s.rest = closed_rest s.rest end s.ends (omega (arith, h, far)) in
              let cut = stands_cut front more tree start end s (omega (arith, long, h)) in
              let less = p.within tree (start - length more) (end - length more) cut in
              absurd (omega (arith, less, h))
          | inr h ↦ h
        ]

  -- a statement of the front that has its `;` is the text's; where the file ends at the limit the `;` stands before it
  pub node_kept : (tree : Tree) (start end : ℕ) → (n : plain.IsNodeWithoutLimits front tree start end) → 0 < length n.stands.rest
      → (0 < end) ⊎ (IsFileLimit before (front ++ more) at → ⊥)
      → IsNode before (front ++ more) tree (start + length more) (end + length more)
  node_kept tree start end n some before_end = record {
    stands = stands_kept front more tree start end n.stands some;
    clean = λ k left h. elim (split left (length more)) [
      | inl near ↦ omega (arith, near)
      | inr far ↦ by k left far h
    ];
  } where
    -- the file's limit
    file : (left : ℕ) → length more < left → IsFileLimit before (front ++ more) left
        → (0 < end) ⊎ (IsFileLimit before (front ++ more) at → ⊥) → left ≤ end + length more
    file left far f (inl e) = omega (arith, last left (inr f), cuts, e)
    file left far f (inr never) = absurd (never (subst (IsFileLimit before (front ++ more)) (same (last left (inr f))) f)) where
      same : left ≤ at → left ≡ at
      same h = omega (arith, h, far, cuts)

    closes : (rest : List ℕ) → 0 < length rest → EndsAt rest end
        → (behind : List ℕ) × (token_at (rest ++ more) ≡ Ok (Token.semicolon, behind))
    closes [] h p = absurd (omega (arith, h))
    closes (c ∷ rest) h p =
        let kept = ends_kept more c rest end p in
        (kept.0, kept.1)

    begins : (rest : List ℕ) → 0 < length rest → EndsAt rest end → (shape : Shape) × (first_shape rest ≡ Some shape)
    begins [] h p = absurd (omega (arith, h))
    begins (c ∷ rest) h p = (Semicolon, token_shape_is (c ∷ rest) Token.semicolon p.0 p.1)

    by : (k : TextKind) (left : ℕ) → length more < left → within.Holds before (front ++ more) k left → left ≤ end + length more
    by k left far (within.past_limit (e, inl l)) =
        let s = n.stands in
        let leads : Leads front (element_tokens s.statement.element)
        (Some s.rest) = subst (λ (ts : List Token). Leads front ts (Some s.rest)) s.statement.tokens s.leads in
        let sign = closes s.rest some s.ends in
        let on = l.goes_on s.statement.element (s.rest ++ more) sign.0
        (leads_on front more (element_tokens s.statement.element) s.rest leads (inr (begins s.rest some s.ends))) sign.1 in
        absurd (omega (arith, on, last left (inl l.limit), cuts, length-append s.rest more, some))
    by k left far (within.past_limit (e, inr f)) = file left far f before_end
    by k left far (within.flawed p) =
        omega (arith, far, n.clean k (left - length more) (plain.flawed (flawed_cut before front more at is_limit cuts k left far p)))
    by k left far (within.in_comment p) = omega (arith, far, p.left_is)
    by k left far (within.is_open p) = omega (arith, far, p.left_is)
    by k left far (within.unexpected p) =
        omega (arith, far, n.clean k (left - length more) (plain.unexpected (unexpected_cut before front more k left far p)))
    by k left far (within.too_deep p) =
        omega (arith, far, n.clean k (left - length more) (plain.too_deep (too_deep_cut before front more k left far p)))
