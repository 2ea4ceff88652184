use Rattle.mich_world.proofs.simulation_lemmas.Runs.{ledgers_run}
use Rattle.mich_world.proofs.simulation.running.ledgers_run.Goals as goal

pub returns : goal.returns
returns c = ledgers_run
