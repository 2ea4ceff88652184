use Rattle.mich_world.proofs.simulation_lemmas.Agreement.{credits_agree}
use Rattle.mich_world.proofs.simulation.agreeing.credits_agree.Goals as goal

pub returns : goal.returns
returns c = credits_agree
