use Rattle.std.proofs.Common.{◌≡◌, ◌+◌, drop}
use Rattle.std.specs.Prelude.{IsTrue}
use Rattle.rules_text.specs.nodes.Tree.{size, sizes}
use Rattle.rules_data.specs.gas.Tables.{are_rows, rows_over, table_of}
use Rattle.mich_base.specs.View.{tree, trees}
use Rattle.mich_gas.specs.View.{listed}
use Rattle.mich_gas.proofs.costs.read_costs.Given as goal

abbrev pub invariant-loop-row : goal.invariant-loop-row
invariant-loop-row l =
    let left = trees (drop l.row-index l.row-items) in
    (rows_over (listed l.costs) l.location left ≡ table_of (tree l.node)) × IsTrue (are_rows left) × (l.location + sizes left ≡ size (tree l.node))
