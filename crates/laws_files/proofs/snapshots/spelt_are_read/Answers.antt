use Rattle.laws_files.proofs.snapshots_lemmas.GivesParts.{spelt_are_read}
use Rattle.laws_files.proofs.snapshots.spelt_are_read.Goals as goal

pub returns : goal.returns
returns c = spelt_are_read
