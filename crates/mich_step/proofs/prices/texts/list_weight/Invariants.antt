use Rattle.std.proofs.Common.{◌≡◌, ◌+◌, ℕ, length, reverse}
use Rattle.mich_stack.specs.Views.{Sight}
use Rattle.mich_term.specs.Weights.{capped}
use Rattle.mich_step.proofs.prices_lemmas.Joining.{joined_weight}
use Rattle.mich_step.proofs.prices.texts.list_weight.Given as goal

abbrev pub invariant-loop-value : goal.invariant-loop-value
invariant-loop-value l = (big : Sight) → (seen : ℕ) × (l.total ≡ capped seen) × (seen + joined_weight big (reverse l.left) ≡ joined_weight big l.list)

abbrev pub decreases-loop-value : goal.decreases-loop-value
decreases-loop-value l = length l.left
