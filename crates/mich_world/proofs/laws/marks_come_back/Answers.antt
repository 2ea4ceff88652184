use Rattle.mich_world.proofs.Marks.{mark_good, mark_is}
use Rattle.mich_world.proofs.laws.marks_come_back.Goals as goal

pub returns : goal.returns
returns c = λ v w k. (mark_good v w k, mark_is v w k)
