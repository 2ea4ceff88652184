use Rattle.std.proofs.Common.{◌≡◌, drop}
use Rattle.rules_data.specs.gas.Tables.{are_rows, is_table}
use Rattle.mich_base.specs.View.{tree, trees}
use Rattle.mich_gas.proofs.costs.is_table.Given as goal

abbrev pub invariant-loop-row : goal.invariant-loop-row
invariant-loop-row l = are_rows (trees (drop l.row-index l.row-items)) ≡ is_table (tree l.node)
