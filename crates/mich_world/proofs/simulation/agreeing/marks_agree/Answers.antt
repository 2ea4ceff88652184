use Rattle.mich_world.proofs.simulation_lemmas.Agreement.{marks_agree}
use Rattle.mich_world.proofs.simulation.agreeing.marks_agree.Goals as goal

pub returns : goal.returns
returns c = marks_agree
