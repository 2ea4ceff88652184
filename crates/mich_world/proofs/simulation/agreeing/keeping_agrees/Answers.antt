use Rattle.mich_world.proofs.simulation_lemmas.Agreement.{keeping_agrees}
use Rattle.mich_world.proofs.simulation.agreeing.keeping_agrees.Goals as goal

pub returns : goal.returns
returns c = keeping_agrees
