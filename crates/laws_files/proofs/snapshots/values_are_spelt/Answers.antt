use Rattle.laws_files.proofs.snapshots_lemmas.Values.{values_are_spelt}
use Rattle.laws_files.proofs.snapshots.values_are_spelt.Goals as goal

pub returns : goal.returns
returns c = values_are_spelt
