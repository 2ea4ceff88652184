use Rattle.std.proofs.Common.{◌≡◌, ◌++◌, map}
use Rattle.std.specs.Vec.Iter.{into_iter_items}
use Rattle.mich_base.specs.undo.History.{Keeps}
use Rattle.rules_code.specs.steps.Changes.{burns}
use Rattle.mich_term.specs.TicketView.{held}
use Rattle.mich_tickets.specs.Effects.{Tells}
use Rattle.mich_tickets.specs.Limits.{IsReady}
use Rattle.mich_step.proofs.burning.burn_all.Given as goal

abbrev pub invariant-loop-ticket : goal.invariant-loop-ticket
invariant-loop-ticket l = record {
  told : Tells (burns (map held l.yielded)) l.fn.ledger l.ledger;
  ready : IsReady l.ledger.books.present (map held (into_iter_items l.ticket-iterator));
  place : l.yielded ++ into_iter_items l.ticket-iterator ≡ l.fn.tickets;
  keeps : Keeps l.fn.ledger.books l.ledger.books;
}
