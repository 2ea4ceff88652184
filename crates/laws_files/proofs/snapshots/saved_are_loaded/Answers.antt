use Rattle.laws_files.proofs.snapshots_lemmas.Loads.{saved_are_loaded}
use Rattle.laws_files.proofs.snapshots.saved_are_loaded.Goals as goal

pub returns : goal.returns
returns c = saved_are_loaded
