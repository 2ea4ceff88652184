use Rattle.std.proofs.Common.{List, subst}
use Rattle.rules_data.specs.values.Tickets.{Held}
use Rattle.mich_snapshot.specs.Sums.{Finds, have_totals, more_tickets}
use Rattle.mich_snapshot.proofs.holders.tickets_hold.Goals as goal

pub returns : goal.returns
returns c = λ s found h.
    subst (λ (ts : List Held). Finds s (have_totals s ts) (more_tickets found ts) c.add_all.new.self.found.entries c.add_all.result) c.in_ok-tickets.ensures
    (c.add_all.ensures s found h)
