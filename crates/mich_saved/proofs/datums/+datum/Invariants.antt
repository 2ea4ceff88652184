use Rattle.std.proofs.Common.{◌+◌, ◌*◌, max}
use Rattle.mich_base.specs.declared.ty.Ty.{size-Ty}
use Rattle.mich_saved.proofs.datums.+datum.Given as goal

abbrev pub decreases-datum_at : goal.decreases-datum_at
decreases-datum_at l = 2 * size-Ty l.ty.now

abbrev pub decreases-option_at : goal.decreases-option_at
decreases-option_at l = 2 * size-Ty l.part.now + 1

abbrev pub decreases-or_at : goal.decreases-or_at
decreases-or_at l = 2 * max (size-Ty l.left.now) (size-Ty l.right.now) + 1

abbrev pub decreases-pair_at : goal.decreases-pair_at
decreases-pair_at l = 2 * max (size-Ty l.first.now) (size-Ty l.second.now) + 1
