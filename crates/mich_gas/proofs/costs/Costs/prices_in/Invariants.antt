use Rattle.std.proofs.Common.{◌≡◌, map, take}
use Rattle.rules_data.specs.gas.Prices.{price_of}
use Rattle.mich_gas.specs.View.{listed, seen_price}
use Rattle.mich_gas.proofs.costs.Costs.prices_in.Given as goal

abbrev pub invariant-loop-kind : goal.invariant-loop-kind
invariant-loop-kind l = map seen_price l.prices ≡ map (λ row. price_of (listed l.self) row.1) (take l.kind-index l.table)
