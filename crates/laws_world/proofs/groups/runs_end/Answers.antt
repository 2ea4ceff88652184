use Rattle.laws_world.proofs.runs.ForCallers.{runs_end}
use Rattle.laws_world.proofs.groups.runs_end.Goals as goal

pub returns : goal.returns
returns c = runs_end
