use Rattle.laws_data.proofs.binary_lemmas.Nodes.{one_spelling}
use Rattle.laws_data.proofs.binary.one_spelling.Goals as goal

pub returns : goal.returns
returns c = one_spelling
