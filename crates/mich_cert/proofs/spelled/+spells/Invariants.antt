use Rattle.std.proofs.Common.{◌+◌, ◌*◌}
use Rattle.rules_data.specs.types.Kind.{nodes}
use Rattle.mich_base.specs.TypeView.{kind}
use Rattle.mich_cert.proofs.spelled.+spells.Given as goal

abbrev pub decreases-spells : goal.decreases-spells
decreases-spells l = 2 * nodes (kind l.ty.now)

abbrev pub decreases-is_over_one : goal.decreases-is_over_one
decreases-is_over_one l = 2 * nodes (kind l.part.now) + 1

abbrev pub decreases-is_over_two : goal.decreases-is_over_two
decreases-is_over_two l = 2 * (nodes (kind l.first.now) + nodes (kind l.second.now)) + 1
