use Rattle.mich_world.proofs.simulation_lemmas.Agreement.{run_ends_agree}
use Rattle.mich_world.proofs.simulation.agreeing.run_ends_agree.Goals as goal

pub returns : goal.returns
returns c = run_ends_agree
