use Rattle.mich_world.proofs.simulation_lemmas.Storages.{moves_keep_stored}
use Rattle.mich_world.proofs.simulation.running.moves_keep_stored.Goals as goal

pub returns : goal.returns
returns c = moves_keep_stored
