use Rattle.mich_world.proofs.simulation_lemmas.Agreement.{payments_agree}
use Rattle.mich_world.proofs.simulation.agreeing.payments_agree.Goals as goal

pub returns : goal.returns
returns c = payments_agree
