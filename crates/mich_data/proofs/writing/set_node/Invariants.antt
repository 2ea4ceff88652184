use Rattle.std.proofs.Common.{◌≡◌, ◌++◌, map}
use Rattle.mich_base.specs.View.{tree}
use Rattle.mich_term.specs.View.{datums}
use Rattle.mich_data.specs.Written.{element_trees}
use Rattle.mich_data.proofs.writing.set_node.Given as goal

abbrev pub invariant-loop-element : goal.invariant-loop-element
invariant-loop-element l = map tree l.nodes ++ element_trees (datums l.element-iterator) ≡ element_trees (datums l.elements)
