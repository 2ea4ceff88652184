use Rattle.std.proofs.Common.{refl, ◌∙◌, arith}
use Rattle.mich_report.proofs.Loops.{change_trees, all_written}
use Rattle.mich_report.proofs.changes.changes_node.Goals as goal

pub returns : goal.returns
returns c = c.sequence_node.ensures ∙ all_written change_trees c.loop-made.nodes c.loop-made.made-index _ _ refl c.loop-made.invariant (omega arith) c.as_slice-made-items.ensures
