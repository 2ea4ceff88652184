use Rattle.mich_world.proofs.simulation_lemmas.Agreement.{runs_keep_stored}
use Rattle.mich_world.proofs.simulation.running.runs_keep_stored.Goals as goal

pub returns : goal.returns
returns c = runs_keep_stored
