use Rattle.std.proofs.Common.{ℕ, drop, map}
use Rattle.std.specs.Prelude.{option_map}
use Rattle.rules_data.specs.values.Tickets.{Identity}
use Rattle.rules_files.specs.snapshots.State.{State}
use Rattle.mich_saved.specs.Shown.{holding}
use Rattle.mich_term.specs.TicketView.{identity}
use Rattle.mich_snapshot.specs.Sums.{AreFound}
use Rattle.mich_snapshot.proofs.Steps.{HoldingsLeft}
use Rattle.mich_snapshot.proofs.holders.holdings_hold.Given as goal

abbrev pub invariant-loop-id : goal.invariant-loop-id
invariant-loop-id l = (s : State) (found : Identity → ℕ) → AreFound s found l.fn.sums.found.entries
    → HoldingsLeft s found (map holding l.holdings) (option_map identity l.former) (map holding (drop l.id-index l.id-items)) l.sums.found.entries
