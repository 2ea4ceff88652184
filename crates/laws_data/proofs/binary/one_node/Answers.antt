use Rattle.laws_data.proofs.binary_lemmas.DecodedNodes.{one_node}
use Rattle.laws_data.proofs.binary.one_node.Goals as goal

pub returns : goal.returns
returns c = one_node
