use Rattle.mich_world.proofs.Agreeing.{fees_agree}
use Rattle.mich_world.proofs.laws.fees_agree.Goals as goal

pub returns : goal.returns
returns c = fees_agree
