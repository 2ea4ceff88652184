use Rattle.mich_replay.proofs.Conserved.{no_group_is_stuck}
use Rattle.mich_replay.proofs.laws.no_group_is_stuck.Goals as goal

pub returns : goal.returns
returns c = no_group_is_stuck
