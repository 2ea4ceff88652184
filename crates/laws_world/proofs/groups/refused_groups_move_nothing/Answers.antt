use Rattle.laws_world.proofs.groups_lemmas.GroupLaws.{refused_groups_move_nothing}
use Rattle.laws_world.proofs.groups.refused_groups_move_nothing.Goals as goal

pub returns : goal.returns
returns c = refused_groups_move_nothing
