use Rattle.mich_world.proofs.simulation_lemmas.Agreement.{accounts_agree}
use Rattle.mich_world.proofs.simulation.agreeing.accounts_agree.Goals as goal

pub returns : goal.returns
returns c = accounts_agree
