use Rattle.mich_world.proofs.preconditions_lemmas.Fitting.{installs_fit}
use Rattle.mich_world.proofs.preconditions.installs_fit.Goals as goal

pub returns : goal.returns
returns c = installs_fit
