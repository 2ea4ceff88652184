use Rattle.std.proofs.Common.{◌∙◌, sym, ap, subst, drop, ◌≡◌, ◌+◌}
use Rattle.std.specs.Prelude.{IsTrue}
use Rattle.rules_text.specs.nodes.Tree.{size, sizes}
use Rattle.rules_data.specs.gas.Tables.{are_rows, rows_over, table_of}
use Rattle.mich_base.specs.View.{tree, trees}
use Rattle.mich_gas.specs.View.{listed, seen_listing}
use Rattle.mich_gas.proofs.Listings.{row_taken, trees_left}
use Rattle.mich_gas.proofs.costs.read_costs.Goals as goal

pub loop-row-preserved : goal.loop-row-preserved
loop-row-preserved c =
    let nodes = c.as_slice-row-items.result.now in
    let left = trees_left nodes c.loop-row.row-index c.row-item.result c.loop-row-test.true c.row-item.is in
    let kept : (rows_over (listed c.loop-row.costs) c.loop-row.location (trees (drop c.loop-row.row-index nodes)) ≡ table_of (tree c.args.node.now)) × IsTrue (are_rows (trees (drop c.loop-row.row-index nodes))) × (c.loop-row.location + sizes (trees (drop c.loop-row.row-index nodes)) ≡ size (tree c.args.node.now)) = c.loop-row.invariant in
    row_taken (listed c.loop-row.costs) (listed c.list.new.self) c.loop-row.location (size (tree c.args.node.now)) (table_of (tree c.args.node.now)) (tree c.row-item.result) (trees (drop (c.loop-row.row-index + 1) nodes)) (seen_listing c.in-Some.new) (sym (ap (rows_over (listed c.loop-row.costs) c.loop-row.location) left) ∙ kept.0) (subst (λ ts. IsTrue (are_rows ts)) left kept.1) (sym (ap (λ ts. c.loop-row.location + sizes ts) left) ∙ kept.2) c.in-Some.ensures (sym c.is_listed.ensures ∙ c.if-is_listed.false) c.list.ensures
