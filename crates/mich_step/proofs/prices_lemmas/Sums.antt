-- Sums of weights.
use Rattle.std.proofs.Common.{◌≡◌, ◌+◌, ℕ, zero, suc, List, [], ◌∷◌, take, refl, ◌∙◌, arith}
use Rattle.std.proofs.lemmas.List.Sums.{sum_by-cons}
use Rattle.std.specs.Prelude.{sum_by, slice_get}
use Rattle.rules_data.specs.values.Val.{Val}
use Rattle.rules_data.specs.values.Weight.{weight}
use Rattle.rules_code.specs.steps.Costs.{weight_found}

more : (w a b c p q : ℕ) → p ≡ w + a → q ≡ w + b → a ≡ b + c → p ≡ q + c
more w a b c p q e f h = omega (arith, e, f, h)

-- one more value
sums_more : (k : ℕ) (V : List Val) → sum_by weight (take (suc k) V) ≡ sum_by weight (take k V) + weight_found (slice_get V k)
sums_more zero [] = refl
sums_more zero (v ∷ V) = sum_by-cons weight v [] ∙ omega arith
sums_more (suc k) [] = refl
sums_more (suc k) (v ∷ V) =
    more (weight v) (sum_by weight (take (suc k) V)) (sum_by weight (take k V)) (weight_found (slice_get V k)) _ _ (sum_by-cons weight v (take (suc k) V)) (sum_by-cons weight v (take k V)) (sums_more k V)

pub sum_more : (k : ℕ) (V : List Val) → sum_by weight (take (k + 1) V) ≡ sum_by weight (take k V) + weight_found (slice_get V k)
sum_more k V = let e : k + 1 ≡ suc k = omega arith in rw e (sums_more k V)
