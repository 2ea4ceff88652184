use Rattle.std.proofs.Common.{◌≡◌, ◌++◌, drop, map}
use Rattle.std.specs.List.{flat_map}
use Rattle.rules_files.specs.snapshots.Spelling.{price_spelling}
use Rattle.mich_gas.specs.View.{seen_price}
use Rattle.mich_snapshot.proofs.saving.put_costs.Given as goal

-- the prices so far, and those that are left
abbrev pub invariant-loop-price : goal.invariant-loop-price
invariant-loop-price l =
    l.out.items ++ flat_map price_spelling (map seen_price (drop l.price-index l.price-items))
    ≡ l.fn.out.items ++ flat_map price_spelling (map seen_price l.price-items)
