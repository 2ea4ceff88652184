use Rattle.mich_world.proofs.preconditions_lemmas.Waiting.{gifts_may_run}
use Rattle.mich_world.proofs.preconditions.gifts_may_run.Goals as goal

pub returns : goal.returns
returns c = gifts_may_run
