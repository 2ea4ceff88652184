use Rattle.laws_files.proofs.snapshots_lemmas.Parts.{states_are_spelt}
use Rattle.laws_files.proofs.snapshots.states_are_spelt.Goals as goal

pub returns : goal.returns
returns c = states_are_spelt
