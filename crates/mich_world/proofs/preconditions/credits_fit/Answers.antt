use Rattle.mich_world.proofs.preconditions_lemmas.Fitting.{credits_fit}
use Rattle.mich_world.proofs.preconditions.credits_fit.Goals as goal

pub returns : goal.returns
returns c = credits_fit
