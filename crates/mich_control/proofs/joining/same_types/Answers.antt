use Rattle.mich_control.proofs.Tops.{same_lists}
use Rattle.mich_control.proofs.joining.same_types.Goals as goal

pub returns : goal.returns
returns c = same_lists _ _ _ c.same_lists.ensures
