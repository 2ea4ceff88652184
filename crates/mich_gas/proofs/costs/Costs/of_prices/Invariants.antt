use Rattle.std.proofs.Common.{◌≡◌, ℕ, ◌<◌, length, get_or, slice_get}
use Rattle.std.specs.Prelude.{None}
use Rattle.mich_gas.proofs.costs.Costs.of_prices.Given as goal

abbrev pub invariant-loop-place : goal.invariant-loop-place
invariant-loop-place l =
    (length l.listed ≡ length l.prices) × ((j : ℕ) → j < l.place → get_or l.listed j None ≡ slice_get l.prices j)
