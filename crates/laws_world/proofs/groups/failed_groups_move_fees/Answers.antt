use Rattle.laws_world.proofs.groups_lemmas.GroupLaws.{failed_groups_move_fees}
use Rattle.laws_world.proofs.groups.failed_groups_move_fees.Goals as goal

pub returns : goal.returns
returns c = failed_groups_move_fees
