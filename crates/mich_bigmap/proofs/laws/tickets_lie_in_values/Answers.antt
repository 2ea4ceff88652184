use Rattle.mich_bigmap.proofs.Plain.{tickets_in_store}
use Rattle.mich_bigmap.proofs.laws.tickets_lie_in_values.Goals as goal

pub returns : goal.returns
returns c = tickets_in_store
