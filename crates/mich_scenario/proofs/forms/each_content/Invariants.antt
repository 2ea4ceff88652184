use Rattle.std.proofs.Common.{◌≡◌}
use Rattle.std.specs.Vec.Iter.{into_iter_items}
use Rattle.rules_files.specs.statements.Statements.{each_content, nodes_of}
use Rattle.mich_base.specs.View.{trees}
use Rattle.mich_scenario.proofs.Each.{reached}
use Rattle.mich_scenario.proofs.forms.each_content.Given as goal

abbrev pub invariant-loop-node : goal.invariant-loop-node
invariant-loop-node l = each_content (nodes_of (trees l.fn.nodes)) ≡ reached l.contents (into_iter_items l.node-iterator)
