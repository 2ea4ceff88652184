use Rattle.std.proofs.Common.{◌+◌, ◌*◌, max}
use Rattle.mich_base.specs.declared.ty.Ty.{size-Ty}
use Rattle.mich_snapshot.proofs.forms.+fits.Given as goal

abbrev pub decreases-datum_fits : goal.decreases-datum_fits
decreases-datum_fits l = 2 * size-Ty l.ty.now

abbrev pub decreases-both_fit : goal.decreases-both_fit
decreases-both_fit l = 2 * max (size-Ty l.left.now) (size-Ty l.right.now) + 1
