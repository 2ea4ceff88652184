use Rattle.laws_files.proofs.snapshots_lemmas.Loads.{loaded_are_sound}
use Rattle.laws_files.proofs.snapshots.loaded_are_sound.Goals as goal

pub returns : goal.returns
returns c = loaded_are_sound
