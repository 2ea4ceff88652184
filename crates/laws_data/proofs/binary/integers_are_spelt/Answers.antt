use Rattle.laws_data.proofs.binary_lemmas.Integers.{integers_are_spelt}
use Rattle.laws_data.proofs.binary.integers_are_spelt.Goals as goal

pub returns : goal.returns
returns c = integers_are_spelt
