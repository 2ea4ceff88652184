use Rattle.laws_world.proofs.groups_lemmas.Chains.{grants_keep_good}
use Rattle.laws_world.proofs.groups.grants_keep_good.Goals as goal

pub returns : goal.returns
returns c = grants_keep_good
