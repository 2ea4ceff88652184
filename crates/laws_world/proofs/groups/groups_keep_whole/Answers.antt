use Rattle.laws_world.proofs.groups_lemmas.Chains.{groups_keep_whole}
use Rattle.laws_world.proofs.groups.groups_keep_whole.Goals as goal

pub returns : goal.returns
returns c = groups_keep_whole
