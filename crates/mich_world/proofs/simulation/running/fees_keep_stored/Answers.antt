use Rattle.mich_world.proofs.simulation_lemmas.Storages.{fees_keep_stored}
use Rattle.mich_world.proofs.simulation.running.fees_keep_stored.Goals as goal

pub returns : goal.returns
returns c = fees_keep_stored
