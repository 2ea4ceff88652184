use Rattle.laws_world.proofs.groups_lemmas.Groups.{groups_conserve_mutez}
use Rattle.laws_world.proofs.groups.groups_conserve_mutez.Goals as goal

pub returns : goal.returns
returns c = groups_conserve_mutez
