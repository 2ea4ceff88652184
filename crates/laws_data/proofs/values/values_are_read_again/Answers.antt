use Rattle.laws_data.proofs.values_lemmas.Again.{again}
use Rattle.laws_data.proofs.values.values_are_read_again.Goals as goal

pub returns : goal.returns
returns c = again
