use Rattle.mich_world.proofs.simulation_lemmas.Runs.{stores_run}
use Rattle.mich_world.proofs.simulation.running.stores_run.Goals as goal

pub returns : goal.returns
returns c = stores_run
