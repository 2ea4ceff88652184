use Rattle.laws_data.proofs.binary_lemmas.Prefixes.{no_prefix}
use Rattle.laws_data.proofs.binary.no_spelling_is_a_prefix.Goals as goal

pub returns : goal.returns
returns c = no_prefix
