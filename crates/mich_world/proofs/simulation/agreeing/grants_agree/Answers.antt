use Rattle.mich_world.proofs.simulation_lemmas.Agreement.{grants_agree}
use Rattle.mich_world.proofs.simulation.agreeing.grants_agree.Goals as goal

pub returns : goal.returns
returns c = grants_agree
