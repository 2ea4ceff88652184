use Rattle.mich_bigmap.proofs.Staying.{val_plain}
use Rattle.mich_bigmap.proofs.laws.plain_values_stand.Goals as goal

pub returns : goal.returns
returns c = val_plain
