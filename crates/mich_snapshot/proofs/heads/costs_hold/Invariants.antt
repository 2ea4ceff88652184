use Rattle.std.proofs.Common.{◌≡◌, true, take}
use Rattle.std.specs.List.{list_all}
use Rattle.rules_files.specs.snapshots.Rules.{is_price}
use Rattle.mich_gas.specs.View.{seen_price}
use Rattle.mich_snapshot.proofs.heads.costs_hold.Given as goal

abbrev pub invariant-loop-price : goal.invariant-loop-price
invariant-loop-price l = list_all (λ p. is_price (seen_price p)) (take l.price-index l.price-items) ≡ true
