use Rattle.std.proofs.Common.{◌≡◌, ◌+◌, ◌-◌, ◌^◌, ◌≤◌}
use Rattle.rules_data.specs.values.Weight.{weights}
use Rattle.mich_term.specs.Weights.{capped}
use Rattle.mich_term.specs.View.{datums}
use Rattle.mich_term.proofs.weighing.set_weight.Given as goal

abbrev pub invariant-loop-element : goal.invariant-loop-element
invariant-loop-element l = record {
  same : capped (l.total + weights (datums l.element-iterator)) ≡ capped (weights (datums l.elements));
  small : l.total ≤ 2 ^ 64 - 1;
}
