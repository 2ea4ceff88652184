use Rattle.laws_world.proofs.accounts.ForCallers.{grants_add_mutez}
use Rattle.laws_world.proofs.groups.grants_add_mutez.Goals as goal

pub returns : goal.returns
returns c = grants_add_mutez
