use Rattle.mich_bigmap.proofs.Settled.{val_later, based_later}
use Rattle.mich_bigmap.proofs.laws.values_stay.Goals as goal

pub returns : goal.returns
returns c = λ old new v p h. (val_later old new v p h, based_later old new v p h)
