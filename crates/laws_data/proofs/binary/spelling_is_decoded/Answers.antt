use Rattle.laws_data.proofs.binary_lemmas.Nodes.{spelling_is_decoded}
use Rattle.laws_data.proofs.binary.spelling_is_decoded.Goals as goal

pub returns : goal.returns
returns c = spelling_is_decoded
