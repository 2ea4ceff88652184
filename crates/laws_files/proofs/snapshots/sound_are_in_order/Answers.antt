use Rattle.laws_files.proofs.snapshots_lemmas.Sorted.{sound_are_in_order}
use Rattle.laws_files.proofs.snapshots.sound_are_in_order.Goals as goal

pub returns : goal.returns
returns c = sound_are_in_order
