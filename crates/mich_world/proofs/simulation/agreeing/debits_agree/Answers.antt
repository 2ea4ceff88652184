use Rattle.mich_world.proofs.simulation_lemmas.Agreement.{debits_agree}
use Rattle.mich_world.proofs.simulation.agreeing.debits_agree.Goals as goal

pub returns : goal.returns
returns c = debits_agree
