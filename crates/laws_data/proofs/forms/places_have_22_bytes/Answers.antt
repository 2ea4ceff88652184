use Rattle.laws_data.proofs.forms_lemmas.Places.{place_length}
use Rattle.laws_data.proofs.forms.places_have_22_bytes.Goals as goal

pub returns : goal.returns
returns c = place_length
