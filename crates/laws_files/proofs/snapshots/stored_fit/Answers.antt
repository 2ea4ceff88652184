use Rattle.laws_files.proofs.snapshots_lemmas.Fitting.{stored_fit}
use Rattle.laws_files.proofs.snapshots.stored_fit.Goals as goal

pub returns : goal.returns
returns c = stored_fit
