use Rattle.mich_bigmap.proofs.Reaching.{kept_are_reached}
use Rattle.mich_bigmap.proofs.laws.kept_are_reached.Goals as goal

pub returns : goal.returns
returns c = kept_are_reached
