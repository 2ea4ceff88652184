use Rattle.laws_data.proofs.forms_lemmas.Places.{place_address}
use Rattle.laws_data.proofs.forms.places_are_addresses.Goals as goal

pub returns : goal.returns
returns c = place_address
