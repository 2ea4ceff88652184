use Rattle.std.proofs.Common.{◌≡◌, ◌-◌, map}
use Rattle.mich_gas.specs.View.{seen_price}
use Rattle.rules_files.specs.snapshots.Reading.{parts_at, price_at}
use Rattle.mich_saved.specs.Results.{spot}
use Rattle.mich_saved.proofs.Lines.{with_front}
use Rattle.mich_saved.proofs.parts.prices_at.Given as goal

abbrev pub invariant-loop : goal.invariant-loop
invariant-loop l = with_front (map seen_price l.prices) (parts_at price_at (l.count - l.counter) (spot l.here)) ≡ parts_at price_at l.count (spot l.cursor)
