use Rattle.laws_data.proofs.binary_lemmas.DecodedNodes.{nodes_are_decoded}
use Rattle.laws_data.proofs.binary.nodes_are_decoded.Goals as goal

pub returns : goal.returns
returns c = nodes_are_decoded
