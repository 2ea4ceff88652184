use Rattle.mich_world.proofs.simulation_lemmas.Storages.{payments_keep_stored}
use Rattle.mich_world.proofs.simulation.running.payments_keep_stored.Goals as goal

pub returns : goal.returns
returns c = payments_keep_stored
