use Rattle.mich_world.proofs.simulation_lemmas.Agreement.{new_worlds_agree}
use Rattle.mich_world.proofs.simulation.agreeing.new_worlds_agree.Goals as goal

pub returns : goal.returns
returns c = new_worlds_agree
