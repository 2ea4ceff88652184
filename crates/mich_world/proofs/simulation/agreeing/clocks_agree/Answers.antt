use Rattle.mich_world.proofs.simulation_lemmas.Agreement.{clocks_agree}
use Rattle.mich_world.proofs.simulation.agreeing.clocks_agree.Goals as goal

pub returns : goal.returns
returns c = clocks_agree
