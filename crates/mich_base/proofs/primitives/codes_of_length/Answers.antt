use Rattle.mich_base.specs.ByLength.{codes_by_length}
use Rattle.mich_base.proofs.primitives.codes_of_length.Goals as goal

pub returns : goal.returns
unfolding codes_by_length
returns c = c.codes_at.ensures
