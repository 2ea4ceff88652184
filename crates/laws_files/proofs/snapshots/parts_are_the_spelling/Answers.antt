use Rattle.laws_files.proofs.snapshots_lemmas.Loads.{parts_are_the_spelling}
use Rattle.laws_files.proofs.snapshots.parts_are_the_spelling.Goals as goal

pub returns : goal.returns
returns c = parts_are_the_spelling
