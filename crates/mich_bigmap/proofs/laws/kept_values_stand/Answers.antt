use Rattle.mich_bigmap.proofs.Named.{kept_based}
use Rattle.mich_bigmap.proofs.laws.kept_values_stand.Goals as goal

pub returns : goal.returns
returns c = kept_based
