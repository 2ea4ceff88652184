use Rattle.std.proofs.Common.{◌≡◌, ◌-◌, map}
use Rattle.mich_saved.specs.Shown.{holding}
use Rattle.rules_files.specs.snapshots.Reading.{parts_at, holding_at}
use Rattle.mich_saved.specs.Results.{spot}
use Rattle.mich_saved.proofs.Lines.{with_front}
use Rattle.mich_saved.proofs.parts.holdings_at.Given as goal

abbrev pub invariant-loop : goal.invariant-loop
invariant-loop l = with_front (map holding l.holdings) (parts_at holding_at (l.count - l.counter) (spot l.here)) ≡ parts_at holding_at l.count (spot l.cursor)
