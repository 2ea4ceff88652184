use Rattle.std.proofs.Common.{◌+◌, ◌*◌}
use Rattle.rules_data.specs.types.Kind.{nodes}
use Rattle.mich_base.specs.TypeView.{kind}
use Rattle.mich_types.proofs.printing.+type_node.Given as goal

abbrev pub decreases-type_node : goal.decreases-type_node
decreases-type_node l = 2 * nodes (kind l.ty.now)

abbrev pub decreases-over_type : goal.decreases-over_type
decreases-over_type l = 2 * nodes (kind l.part.now) + 1

abbrev pub decreases-over_types : goal.decreases-over_types
decreases-over_types l = 2 * (nodes (kind l.first.now) + nodes (kind l.second.now)) + 1
