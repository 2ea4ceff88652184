use Rattle.laws_files.proofs.Behind.{worlds_are_in_order}
use Rattle.laws_files.proofs.worlds_are_in_order.Goals as goal

pub returns : goal.returns
returns c = worlds_are_in_order
