use Rattle.mich_world.proofs.simulation_lemmas.Agreement.{runs_agree}
use Rattle.mich_world.proofs.simulation.agreeing.runs_agree.Goals as goal

pub returns : goal.returns
returns c = runs_agree
