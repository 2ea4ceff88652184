use Rattle.mich_forms.proofs.OneSpelling.{only_place}
use Rattle.mich_forms.proofs.places.Place.read.Goals as goal

pub returns-clause-only : goal.returns-clause-only
returns-clause-only c = only_place c.read_place.result c.args.bytes.now c.read_place.ensures
