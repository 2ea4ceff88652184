use Rattle.std.proofs.Common.{◌≡◌, ◌++◌, drop, map}
use Rattle.mich_base.specs.View.{tree}
use Rattle.mich_report.proofs.Loops.{change_trees}
use Rattle.mich_report.proofs.changes.changes_node.Given as goal

-- the changes so far, and those that are left
abbrev pub invariant-loop-made : goal.invariant-loop-made
invariant-loop-made l = map tree l.nodes ++ change_trees (drop l.made-index l.made-items) ≡ change_trees l.made-items
