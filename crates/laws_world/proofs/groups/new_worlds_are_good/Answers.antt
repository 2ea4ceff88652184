use Rattle.laws_world.proofs.groups_lemmas.Chains.{new_worlds_are_good}
use Rattle.laws_world.proofs.groups.new_worlds_are_good.Goals as goal

pub returns : goal.returns
returns c = new_worlds_are_good
