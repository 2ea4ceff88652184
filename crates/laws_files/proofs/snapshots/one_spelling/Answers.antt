use Rattle.laws_files.proofs.snapshots_lemmas.Parts.{one_spelling}
use Rattle.laws_files.proofs.snapshots.one_spelling.Goals as goal

pub returns : goal.returns
returns c = one_spelling
