use Rattle.mich_replay.proofs.Conserved.{conserves_mutez}
use Rattle.mich_replay.proofs.laws.mutez_is_conserved.Goals as goal

pub returns : goal.returns
returns c = conserves_mutez
