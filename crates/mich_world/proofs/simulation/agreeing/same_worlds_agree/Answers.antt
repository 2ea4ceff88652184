use Rattle.mich_world.proofs.simulation_lemmas.Agreement.{same_worlds_agree}
use Rattle.mich_world.proofs.simulation.agreeing.same_worlds_agree.Goals as goal

pub returns : goal.returns
returns c = same_worlds_agree
