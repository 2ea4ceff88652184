use Rattle.mich_world.proofs.simulation_lemmas.Agreement.{receivers_agree}
use Rattle.mich_world.proofs.simulation.agreeing.receivers_agree.Goals as goal

pub returns : goal.returns
returns c = receivers_agree
