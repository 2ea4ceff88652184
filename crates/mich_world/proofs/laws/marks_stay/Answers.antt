use Rattle.mich_world.proofs.Marks.{good_stays, at_stays}
use Rattle.mich_world.proofs.laws.marks_stay.Goals as goal

pub returns : goal.returns
returns c = λ m v w g k. (good_stays m v w g k, at_stays m v w g k)
