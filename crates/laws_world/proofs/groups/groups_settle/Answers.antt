use Rattle.laws_world.proofs.groups_lemmas.Groups.{groups_settle}
use Rattle.laws_world.proofs.groups.groups_settle.Goals as goal

pub returns : goal.returns
returns c = groups_settle
