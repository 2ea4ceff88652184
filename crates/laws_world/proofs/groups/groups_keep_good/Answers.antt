use Rattle.laws_world.proofs.groups_lemmas.Groups.{groups_keep_good}
use Rattle.laws_world.proofs.groups.groups_keep_good.Goals as goal

pub returns : goal.returns
returns c = groups_keep_good
