use Rattle.mich_world.proofs.Agreeing.{moves_agree}
use Rattle.mich_world.proofs.laws.moves_agree.Goals as goal

pub returns : goal.returns
returns c = moves_agree
