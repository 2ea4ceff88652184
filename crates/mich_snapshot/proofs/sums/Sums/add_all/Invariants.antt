use Rattle.std.proofs.Common.{ℕ, drop, map}
use Rattle.rules_data.specs.values.Tickets.{Identity}
use Rattle.rules_files.specs.snapshots.State.{State}
use Rattle.mich_term.specs.TicketView.{held}
use Rattle.mich_snapshot.specs.Sums.{AreFound}
use Rattle.mich_snapshot.proofs.Steps.{TicketsLeft}
use Rattle.mich_snapshot.proofs.sums.Sums.add_all.Given as goal

abbrev pub invariant-loop-ticket : goal.invariant-loop-ticket
invariant-loop-ticket l = (s : State) (found : Identity → ℕ) → AreFound s found l.fn.self.found.entries
    → TicketsLeft s found (map held l.tickets) (map held (drop l.ticket-index l.ticket-items)) l.self.found.entries
