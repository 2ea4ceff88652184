use Rattle.mich_world.proofs.simulation_lemmas.Agreement.{rates_agree}
use Rattle.mich_world.proofs.simulation.agreeing.rates_agree.Goals as goal

pub returns : goal.returns
returns c = rates_agree
