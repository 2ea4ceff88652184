use Rattle.laws_files.proofs.snapshots_lemmas.MadeParts.{read_have_spelling}
use Rattle.laws_files.proofs.snapshots.read_have_spelling.Goals as goal

pub returns : goal.returns
returns c = read_have_spelling
