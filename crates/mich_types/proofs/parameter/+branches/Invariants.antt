use Rattle.std.proofs.Common.{◌+◌, ◌*◌}
use Rattle.rules_data.specs.types.Kind.{nodes}
use Rattle.mich_base.specs.TypeView.{kind}
use Rattle.mich_types.proofs.parameter.+branches.Given as goal

abbrev pub decreases-add_branch : goal.decreases-add_branch
decreases-add_branch l = 2 * nodes (kind l.ty.now) + 1

abbrev pub decreases-add_branches : goal.decreases-add_branches
decreases-add_branches l = 2 * nodes (kind l.ty.now)
