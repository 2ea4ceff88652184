use Rattle.rules_data.specs.gas.Kinds.{kind_named, kinds_by_name}
use Rattle.mich_gas.proofs.names.kind_of_name.Goals as goal

pub returns : goal.returns
unfolding kind_named kinds_by_name
returns c = c.kind_among.ensures
