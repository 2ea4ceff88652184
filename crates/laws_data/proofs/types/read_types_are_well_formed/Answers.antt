use Rattle.laws_data.proofs.types_lemmas.Again.{well}
use Rattle.laws_data.proofs.types.read_types_are_well_formed.Goals as goal

pub returns : goal.returns
returns c = well
