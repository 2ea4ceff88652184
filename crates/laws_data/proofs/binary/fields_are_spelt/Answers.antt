use Rattle.laws_data.proofs.binary_lemmas.Fields.{fields_are_spelt}
use Rattle.laws_data.proofs.binary.fields_are_spelt.Goals as goal

pub returns : goal.returns
returns c = fields_are_spelt
