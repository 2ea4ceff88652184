use Rattle.laws_data.proofs.types_lemmas.Again.{are_read}
use Rattle.laws_data.proofs.types.types_are_read_again.Goals as goal

pub returns : goal.returns
returns c = are_read
