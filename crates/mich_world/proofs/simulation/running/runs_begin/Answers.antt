use Rattle.mich_world.proofs.simulation_lemmas.Runs.{runs_begin}
use Rattle.mich_world.proofs.simulation.running.runs_begin.Goals as goal

pub returns : goal.returns
returns c = runs_begin
