use Rattle.mich_world.proofs.simulation_lemmas.Agreement.{commits_agree}
use Rattle.mich_world.proofs.simulation.agreeing.commits_agree.Goals as goal

pub returns : goal.returns
returns c = commits_agree
