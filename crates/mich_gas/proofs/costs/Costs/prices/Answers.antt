use Rattle.rules_data.specs.gas.Kinds.{kinds_by_name}
use Rattle.mich_gas.proofs.costs.Costs.prices.Goals as goal

pub returns : goal.returns
unfolding kinds_by_name
returns c = c.prices_in.ensures
