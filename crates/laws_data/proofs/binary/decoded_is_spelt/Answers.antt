use Rattle.laws_data.proofs.binary_lemmas.Nodes.{decoded_is_spelt}
use Rattle.laws_data.proofs.binary.decoded_is_spelt.Goals as goal

pub returns : goal.returns
returns c = decoded_is_spelt
