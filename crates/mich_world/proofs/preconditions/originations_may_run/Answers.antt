use Rattle.mich_world.proofs.preconditions_lemmas.Waiting.{originations_may_run}
use Rattle.mich_world.proofs.preconditions.originations_may_run.Goals as goal

pub returns : goal.returns
returns c = originations_may_run
