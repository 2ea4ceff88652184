use Rattle.mich_world.proofs.preconditions_lemmas.Waiting.{moves_leave_room}
use Rattle.mich_world.proofs.preconditions.moves_leave_room.Goals as goal

pub returns : goal.returns
returns c = moves_leave_room
