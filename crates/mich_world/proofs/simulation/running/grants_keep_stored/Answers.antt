use Rattle.mich_world.proofs.simulation_lemmas.Storages.{grants_keep_stored}
use Rattle.mich_world.proofs.simulation.running.grants_keep_stored.Goals as goal

pub returns : goal.returns
returns c = grants_keep_stored
