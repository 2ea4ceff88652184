use Rattle.mich_world.proofs.preconditions_lemmas.Waiting.{transfers_may_run}
use Rattle.mich_world.proofs.preconditions.transfers_may_run.Goals as goal

pub returns : goal.returns
returns c = transfers_may_run
