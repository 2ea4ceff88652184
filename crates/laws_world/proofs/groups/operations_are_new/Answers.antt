use Rattle.laws_world.proofs.operations.ForCallers.{operations_are_new}
use Rattle.laws_world.proofs.groups.operations_are_new.Goals as goal

pub returns : goal.returns
returns c = operations_are_new
