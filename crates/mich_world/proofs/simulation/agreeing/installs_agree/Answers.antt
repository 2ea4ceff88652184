use Rattle.mich_world.proofs.simulation_lemmas.Agreement.{installs_agree}
use Rattle.mich_world.proofs.simulation.agreeing.installs_agree.Goals as goal

pub returns : goal.returns
returns c = installs_agree
