-- Charges at a weight that is known up to a limit.
use Rattle.std.proofs.Common.{◌≡◌, ◌≤◌, ◌<◌, ◌+◌, ◌*◌, ◌-◌, ◌^◌, ℕ, zero, suc, Bool, true, false, sym, ap, ◌∙◌, subst, arith}
use Rattle.std.specs.Prelude.{◌⊎◌, min}
use Rattle.std.proofs.Common.{inl, inr}
use Rattle.std.proofs.lemmas.Bool.{cases_lt}
use Rattle.std.proofs.Math.Nat.{mul-le-mul_left, mul-le-mul_right, min-le_left, min-eq_left, min-eq_right}
use Rattle.rules_data.specs.declared.gas.Kind.{Kind as Priced}
use Rattle.rules_data.specs.gas.Prices.{Listed, cost, price_of}
use Rattle.laws_code.specs.evaluation.Laws.{IsCharged}
use Rattle.mich_term.specs.Weights.{capped}
use Rattle.mich_interpreter.specs.Ends.{IsPaid}

too_much : (base c p old most : ℕ) → c ≡ most → c ≤ p → 1 ≤ base → old ≤ most → base + p ≤ old → ⊥
too_much base c p old most f g one small le = omega (arith, f, g, one, small, le)

grows : (k c : ℕ) → c ≤ suc k * c
grows k c = let h : 1 * c ≤ suc k * c = mul-le-mul_right c (omega arith) in omega (arith, h)

-- what can be paid at a capped weight costs the same at the whole one
same_cost : (base n w c old most : ℕ) → c ≡ min w most → 1 ≤ base → old ≤ most → base + n * c ≤ old → base + n * w ≡ base + n * c
same_cost base zero w c old most e one small le = omega arith
same_cost base (suc k) w c old most e one small le = by (cases_lt w most)
  where
    by : (w < most) ⊎ (most ≤ w) → base + suc k * w ≡ base + suc k * c
    by (inl h) = let le : w ≤ most = omega arith in ap (λ x. base + suc k * x) (sym (e ∙ min-eq_left le))
    by (inr h) = absurd (too_much base c (suc k * c) old most (e ∙ min-eq_right h) (grows k c) one small le)

pub capped_paid : (p : Listed) (kind : Priced) (w c old new : ℕ) (b : Bool) → c ≡ capped w → IsCharged p → old ≤ 2 ^ 64 - 1 → IsPaid b p kind c old new → IsPaid b p kind w old new
capped_paid p kind w c old new true e charged small h =
    let same : cost p kind w ≡ cost p kind c = same_cost (price_of p kind).base (price_of p kind).coefficient w c old (2 ^ 64 - 1) e (charged kind) small h.0 in
    (subst (λ k. k ≤ old) (sym same) h.0, h.1 ∙ ap (λ k. old - k) (sym same))
capped_paid p kind w c old new false e charged small h =
    let le : c ≤ w = subst (λ k. k ≤ w) (sym e) (min-le_left w (2 ^ 64 - 1)) in
    let more : (price_of p kind).coefficient * c ≤ (price_of p kind).coefficient * w = mul-le-mul_left (price_of p kind).coefficient le in
    omega (arith, more, h)

-- what was paid, and what wasn't, of a kind
module _ (p : Listed) (kind given : Priced) (w old new : ℕ) (b : Bool) where
  pub paid_is : b ≡ true → given ≡ kind → IsPaid b p given w old new → IsPaid true p kind w old new
  paid_is e f h = subst (λ k. IsPaid true p k w old new) f (subst (λ t. IsPaid t p given w old new) e h)

  pub broke_is : b ≡ false → given ≡ kind → IsPaid b p given w old new → IsPaid false p kind w old new
  broke_is e f h = subst (λ k. IsPaid false p k w old new) f (subst (λ t. IsPaid t p given w old new) e h)
