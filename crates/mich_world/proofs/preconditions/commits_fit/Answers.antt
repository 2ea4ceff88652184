use Rattle.mich_world.proofs.preconditions_lemmas.Fitting.{commits_fit}
use Rattle.mich_world.proofs.preconditions.commits_fit.Goals as goal

pub returns : goal.returns
returns c = commits_fit
