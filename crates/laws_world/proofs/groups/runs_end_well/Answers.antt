use Rattle.laws_world.proofs.runs.ForCallers.{runs_end_well}
use Rattle.laws_world.proofs.groups.runs_end_well.Goals as goal

pub returns : goal.returns
returns c = runs_end_well
