use Rattle.mich_world.proofs.preconditions_lemmas.Waiting.{plain_values_may_run}
use Rattle.mich_world.proofs.preconditions.plain_values_may_run.Goals as goal

pub returns : goal.returns
returns c = plain_values_may_run
