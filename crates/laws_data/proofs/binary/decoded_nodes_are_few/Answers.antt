use Rattle.laws_data.proofs.binary_lemmas.Sizes.{decoded_half}
use Rattle.laws_data.proofs.binary.decoded_nodes_are_few.Goals as goal

pub returns : goal.returns
returns c = decoded_half
