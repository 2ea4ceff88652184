-- The conditions of faults in a text, and in its front up to a limit.
use Rattle.std.proofs.Common.{◌≡◌, ℕ, zero, suc, ◌+◌, ◌-◌, ◌≤◌, ◌<◌, inl, inr, List, [], ◌∷◌, ◌++◌, length, take, Some, Err, refl, sym, ap, subst, ◌∙◌, append_assoc, arith}
use Rattle.std.proofs.lemmas.List.{length-append, append-nil}
use Rattle.rules_text.specs.text.Lexical.{token_at, first_shape}
use Rattle.rules_text.specs.declared.text.Shape.{Shape}
use Rattle.rules_text.specs.declared.text.TextKind.{TextKind}
use Rattle.rules_text.specs.text.Text.{IsLimit, Shows, IsFlawed, IsUnexpected, IsTooDeep}
use Rattle.mich_text.specs.Plain.{IsFlawedWithoutLimits}
use Rattle.mich_text.specs.Shown.{Counts}
use Rattle.mich_text.proofs.tokens.Ahead.{flaw_le}
use Rattle.mich_text.proofs.tokens.Cut.{leads_cut}
use Rattle.mich_text.proofs.tokens.Shown.{token_shown}
use Rattle.mich_text.proofs.readings.Fed.{leads_on}

-- a shape in the front is the first shape of all
shape_front : (b more : List ℕ) → 0 < length b → first_shape (b ++ more) ≡ first_shape b
shape_front [] more h = absurd (omega (arith, h))
shape_front (c ∷ b) more h = refl

take_front : (b more : List ℕ) → take (length b) (b ++ more) ≡ b
take_front [] more = refl
take_front (c ∷ b) more = ap (λ (l : List ℕ). c ∷ l) (take_front b more)

take_past : (b more : List ℕ) (n : ℕ) → length b ≤ n → take n (b ++ more) ≡ b ++ take (n - length b) more
take_past [] more n h = ap (λ (k : ℕ). take k more) (omega arith)
take_past (c ∷ b) more zero h = absurd (omega (arith, h))
take_past (c ∷ b) more (suc n) h =
    let less : n - length b ≡ suc n - suc (length b) = omega arith in
    ap (λ (l : List ℕ). c ∷ l) (take_past b more n (omega (arith, h))) ∙ ap (λ (k : ℕ). c ∷ (b ++ take k more)) less

module _ (before : ℕ) (front more : List ℕ) where
  -- ---- from the text to its front

  module _ (limit : ℕ) (is_limit : IsLimit before (front ++ more) limit) (cuts : limit ≡ 1 + length more) where
    -- and the front shows it whatever follows
    pub shown_cut : (k : TextKind) (left : ℕ) → length more < left → IsFlawed before (front ++ more) k left
        → (p : IsFlawedWithoutLimits front k (left - length more)) × Shows p.here k (length p.here - (left - length more))
    shown_cut k left far p =
        let near : left ≤ length p.here = (flaw_le p.here (record { kind = k; left = left }) p.wrong).0 in
        let g = leads_cut front more p.tokens p.here p.leads (omega (arith, near, far)) in
        let count : length p.here ≡ length g.0 + length more = ap (λ (l : List ℕ). length l) g.1 ∙ length-append g.0 more in
        let size : length p.here - limit + 1 ≡ length g.0 = omega (arith, count, cuts, near, far) in
        let piece : take (length p.here - limit + 1) p.here ≡ g.0 = ap (λ (n : ℕ). take n p.here) size ∙ ap (take (length g.0)) g.1
        ∙ take_front g.0 more in
        let offset : length p.here - left ≡ length g.0 - (left - length more) = omega (arith, count, near, far) in
        let first : Shows g.0 k (length p.here - left) = subst (λ (l : List ℕ). Shows l k (length p.here - left)) piece
        (p.shown limit is_limit (omega (arith, count, cuts, near, far))) in
        let shown : Shows g.0 k (length g.0 - (left - length more)) = subst (Shows g.0 k) offset first in
        let place : length g.0 + 0 - (length g.0 - (left - length more)) ≡ left - length more = omega (arith, count, near, far) in (
          record {
            before = p.tokens;
            here = g.0;
            leads = g.2;
            some = omega (arith, count, near, far);
            wrong = ap token_at (sym (append-nil g.0)) ∙ shown [] ∙ ap (λ (n : ℕ). Err (record { kind = k; left = n })) place;
          },
          shown,
        )

    pub flawed_cut : (k : TextKind) (left : ℕ) → length more < left → IsFlawed before (front ++ more) k left
        → IsFlawedWithoutLimits front k (left - length more)
    flawed_cut k left far p = (shown_cut k left far p).0

  pub unexpected_cut : (k : TextKind) (left : ℕ) → length more < left → IsUnexpected (front ++ more) k left
      → IsUnexpected front k (left - length more)
  unexpected_cut k left far p =
      let g = leads_cut front more p.before p.here p.leads (omega (arith, p.left_is, far)) in
      let count : length p.here ≡ length g.0 + length more = ap (λ (l : List ℕ). length l) g.1 ∙ length-append g.0 more in
      record {
        before = p.before;
        here = g.0;
        shape = p.shape;
        leads = g.2;
        begins = sym (shape_front g.0 more (omega (arith, count, p.left_is, far))) ∙ ap first_shape (sym g.1) ∙ p.begins;
        front = p.front;
        ends = p.ends;
        kind_is = p.kind_is;
        left_is = omega (arith, count, p.left_is);
      }

  pub too_deep_cut : (k : TextKind) (left : ℕ) → length more < left → IsTooDeep (front ++ more) k left
      → IsTooDeep front k (left - length more)
  too_deep_cut k left far p =
      let g = leads_cut front more p.before p.here p.leads (omega (arith, p.left_is, far)) in
      let count : length p.here ≡ length g.0 + length more = ap (λ (l : List ℕ). length l) g.1 ∙ length-append g.0 more in
      record {
        before = p.before;
        here = g.0;
        shape = p.shape;
        leads = g.2;
        begins = sym (shape_front g.0 more (omega (arith, count, p.left_is, far))) ∙ ap first_shape (sym g.1) ∙ p.begins;
        within = p.within;
        front = p.front;
        deep = p.deep;
        kind_is = p.kind_is;
        left_is = omega (arith, count, p.left_is);
      }

  -- ---- from the front to the text

  pub unexpected_kept : (k : TextKind) (left : ℕ) → IsUnexpected front k left → IsUnexpected (front ++ more) k (left + length more)
  unexpected_kept k left p = record {
    before = p.before;
    here = p.here ++ more;
    shape = p.shape;
    leads = leads_on front more p.before p.here p.leads (inr (p.shape, p.begins));
    begins = shape_front p.here more (some p.here p.shape p.begins) ∙ p.begins;
    front = p.front;
    ends = p.ends;
    kind_is = p.kind_is;
    left_is = omega (arith, p.left_is, length-append p.here more);
  } where
    some : (here : List ℕ) (shape : Shape) → first_shape here ≡ Some shape → 0 < length here
    some [] shape e = absurd cc
    some (c ∷ here) shape e = omega arith

  pub too_deep_kept : (k : TextKind) (left : ℕ) → IsTooDeep front k left → IsTooDeep (front ++ more) k (left + length more)
  too_deep_kept k left p = record {
    before = p.before;
    here = p.here ++ more;
    shape = p.shape;
    leads = leads_on front more p.before p.here p.leads (inr (p.shape, p.begins));
    begins = shape_front p.here more (some p.here p.shape p.begins) ∙ p.begins;
    within = p.within;
    front = p.front;
    deep = p.deep;
    kind_is = p.kind_is;
    left_is = omega (arith, p.left_is, length-append p.here more);
  } where
    some : (here : List ℕ) (shape : Shape) → first_shape here ≡ Some shape → 0 < length here
    some [] shape e = absurd cc
    some (c ∷ here) shape e = omega arith

  pub flawed_kept : ((limit : ℕ) → IsLimit before (front ++ more) limit → limit ≤ 1 + length more) → (k : TextKind) (left : ℕ) → 1 < left
      → (p : IsFlawedWithoutLimits front k left) → Counts p.here k → IsFlawed before (front ++ more) k (left + length more)
  flawed_kept last k left far p counts =
      let near : left ≤ length p.here = (flaw_le p.here (record { kind = k; left = left }) p.wrong).0 in
      let long : 1 < length p.here = omega (arith, near, far) in
      let count = length-append p.here more in
      record {
        tokens = p.before;
        here = p.here ++ more;
        leads = leads_on front more p.before p.here p.leads (inl long);
        some = omega (arith, count, long);
        wrong = token_shown p.here more (record { kind = k; left = left }) long p.wrong counts;
        shown = λ limit is_limit here. shows limit (last limit is_limit) here near long p.wrong counts;
      } where
        shows : (limit : ℕ) → limit ≤ 1 + length more → limit ≤ length (p.here ++ more) → left ≤ length p.here → 1 < length p.here
            → token_at p.here ≡ Err (record { kind = k; left = left }) → Counts p.here k
            → Shows (take (length (p.here ++ more) - limit + 1) (p.here ++ more)) k (length (p.here ++ more) - (left + length more))
        shows limit last here near long wrong counts rest =
            let count = length-append p.here more in
            let size = length (p.here ++ more) - limit + 1 in
            let extra = take (size - length p.here) more in
            let piece : take size (p.here ++ more) ≡ p.here ++ extra = take_past p.here more size (omega (arith, count, last)) in
            let read : token_at (p.here ++ (extra ++ rest)) ≡ Err (record {
              kind = k;
              left = left + length (extra ++ rest);
            }) = token_shown p.here (extra ++ rest) (record {
              kind = k;
              left = left;
            }) long wrong counts in
            let text : take size (p.here ++ more) ++ rest ≡ p.here ++ (extra ++ rest) = ap (λ (l : List ℕ). l ++ rest) piece
            ∙ append_assoc p.here extra rest in
            let length_is : length (take size (p.here ++ more)) ≡ length p.here + length extra = ap (λ (l : List ℕ). length l) piece
            ∙ length-append p.here extra in
            let place : left + length (extra ++ rest) ≡ length (take size
            (p.here ++ more)) + length rest - (length (p.here ++ more) - (left + length more)) = omega (
              arith,
              length-append extra rest,
              length_is,
              count,
              near,
            ) in
            ap token_at text ∙ read ∙ ap (λ (n : ℕ). Err (record { kind = k; left = n })) place
