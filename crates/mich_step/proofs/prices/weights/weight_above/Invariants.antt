use Rattle.std.proofs.Common.{◌≡◌, take}
use Rattle.std.specs.Prelude.{sum_by}
use Rattle.rules_data.specs.values.Weight.{weight}
use Rattle.mich_term.specs.Weights.{capped}
use Rattle.mich_stack.specs.Views.{Sight, values}
use Rattle.mich_step.proofs.prices.weights.weight_above.Given as goal

abbrev pub invariant-loop-depth : goal.invariant-loop-depth
invariant-loop-depth l = (big : Sight) → l.total ≡ capped (sum_by weight (take l.depth (values big l.stack)))
