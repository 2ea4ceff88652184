use Rattle.mich_world.proofs.simulation_lemmas.Agreement.{contracts_agree}
use Rattle.mich_world.proofs.simulation.agreeing.contracts_agree.Goals as goal

pub returns : goal.returns
returns c = contracts_agree
