use Rattle.std.proofs.Common.{◌≡◌, ◌≤◌, ◌+◌, ◌-◌, ◌^◌, ◌++◌, reverse, take, map}
use Rattle.std.specs.Map.Iter.{deref_pair}
use Rattle.rules_data.specs.values.Weight.{weights, pair_weights}
use Rattle.mich_term.specs.Weights.{capped}
use Rattle.mich_term.specs.ValueView.{vals, pairs}
use Rattle.mich_term.proofs.weighing.+weight.Given as goal

abbrev pub invariant-list_weight-loop-value : goal.invariant-list_weight-loop-value
invariant-list_weight-loop-value l = record {
  behind : l.total ≡ capped (weights (vals (reverse (take l.value-index l.value-items))));
  small : l.total ≤ 2 ^ 64 - 1;
}

abbrev pub invariant-table_weight-loop-key : goal.invariant-table_weight-loop-key
invariant-table_weight-loop-key l = record {
  same : capped (l.total + pair_weights (pairs l.key-iterator)) ≡ capped (pair_weights (pairs l.table));
  small : l.total ≤ 2 ^ 64 - 1;
  place : map deref_pair l.yielded ++ l.key-iterator ≡ l.table;
}
