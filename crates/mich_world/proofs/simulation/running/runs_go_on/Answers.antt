use Rattle.mich_world.proofs.simulation_lemmas.Runs.{runs_go_on}
use Rattle.mich_world.proofs.simulation.running.runs_go_on.Goals as goal

pub returns : goal.returns
returns c = runs_go_on
