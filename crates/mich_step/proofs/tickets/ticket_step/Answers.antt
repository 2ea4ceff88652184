-- Each instruction on tickets ends and tells as its rule says.
use Rattle.std.proofs.Common.{sym, subst}
use Rattle.std.specs.Prelude.{IfOk}
use Rattle.rules_code.specs.instructions.Straight as i
use Rattle.rules_code.specs.steps.TicketSteps.{ticket_step}
use Rattle.mich_overload.specs.View.{ticket_row}
use Rattle.mich_stack.specs.Ends.{Fits, IsKept}
use Rattle.mich_stack.specs.Views.{Sight, values}
use Rattle.mich_tickets.specs.Effects.{Tells}
use Rattle.mich_tickets.specs.Sums.{minted_of}
use Rattle.mich_step.specs.Tells.{changes_of, IsDone}
use Rattle.mich_step.specs.Views.{environment}
use Rattle.mich_step.proofs.Splitting.{kept_done, kept_told_all, told_here}
use Rattle.mich_step.proofs.tickets.ticket_step.Goals as goal

pub returns-in-Ticket-clause-ends : goal.returns-in-Ticket-clause-ends
returns-in-Ticket-clause-ends c = λ big. subst (λ q. IsDone (ticket_step (environment c.args.env.now) (minted_of c.args.ledger.now.books.present) (ticket_row q) (values big c.args.stack.now)) (values big c.mint.new.stack) c.mint.result) (sym c.in-Ticket.is) (c.mint.ensures.ends big)

pub returns-in-Ticket-clause-tells : goal.returns-in-Ticket-clause-tells
returns-in-Ticket-clause-tells c = subst (λ q. IfOk c.mint.result (λ _. (big : Sight) → Tells (changes_of (ticket_step (environment c.args.env.now) (minted_of c.args.ledger.now.books.present) (ticket_row q) (values big c.args.stack.now))) c.args.ledger.now c.mint.new.ledger)) (sym c.in-Ticket.is) c.mint.ensures.tells

pub returns-in-ReadTicket-clause-ends : goal.returns-in-ReadTicket-clause-ends
returns-in-ReadTicket-clause-ends c = λ big.
    kept_done _ _ _ (subst (λ q. IsKept (ticket_step (environment c.args.env.now) (minted_of c.args.ledger.now.books.present) (ticket_row q) (values big c.args.stack.now)) (values big c.read_ticket.new.stack) c.read_ticket.result)
    (sym c.in-ReadTicket.is) (c.read_ticket.ensures (environment c.args.env.now) (minted_of c.args.ledger.now.books.present) big))

pub returns-in-ReadTicket-clause-tells : goal.returns-in-ReadTicket-clause-tells
returns-in-ReadTicket-clause-tells c =
    kept_told_all (λ big. ticket_step (environment c.args.env.now) (minted_of c.args.ledger.now.books.present) (ticket_row c.args.row.now) (values big c.args.stack.now)) (λ big. values big c.read_ticket.new.stack) c.read_ticket.result c.args.ledger.now
    (λ big. subst (λ q. IsKept (ticket_step (environment c.args.env.now) (minted_of c.args.ledger.now.books.present) (ticket_row q) (values big c.args.stack.now)) (values big c.read_ticket.new.stack) c.read_ticket.result)
    (sym c.in-ReadTicket.is) (c.read_ticket.ensures (environment c.args.env.now) (minted_of c.args.ledger.now.books.present) big))

pub returns-in-SplitTicket-clause-ends : goal.returns-in-SplitTicket-clause-ends
returns-in-SplitTicket-clause-ends c = λ big. subst (λ q. IsDone (ticket_step (environment c.args.env.now) (minted_of c.args.ledger.now.books.present) (ticket_row q) (values big c.args.stack.now)) (values big c.split_ticket.new.stack) c.split_ticket.result) (sym c.in-SplitTicket.is) (c.split_ticket.ensures.ends (environment c.args.env.now) (minted_of c.args.ledger.now.books.present) big)

pub returns-in-SplitTicket-clause-tells : goal.returns-in-SplitTicket-clause-tells
returns-in-SplitTicket-clause-tells c =
    subst (λ q. IfOk c.split_ticket.result (λ _. (big : Sight) → Tells (changes_of (ticket_step (environment c.args.env.now) (minted_of c.args.ledger.now.books.present) (ticket_row q) (values big c.args.stack.now))) c.args.ledger.now c.split_ticket.new.ledger)) (sym c.in-SplitTicket.is)
    (told_here (λ e total big. Tells (changes_of (ticket_step e total i.split_ticket (values big c.args.stack.now))) c.args.ledger.now c.split_ticket.new.ledger) (environment c.args.env.now) (minted_of c.args.ledger.now.books.present) c.split_ticket.result c.split_ticket.ensures.tells)

pub returns-in-JoinTickets-clause-ends : goal.returns-in-JoinTickets-clause-ends
returns-in-JoinTickets-clause-ends c = λ big. subst (λ q. IsDone (ticket_step (environment c.args.env.now) (minted_of c.args.ledger.now.books.present) (ticket_row q) (values big c.args.stack.now)) (values big c.join_tickets.new.stack) c.join_tickets.result) (sym c.in-JoinTickets.is) (c.join_tickets.ensures.ends (environment c.args.env.now) (minted_of c.args.ledger.now.books.present) big)

pub returns-in-JoinTickets-clause-tells : goal.returns-in-JoinTickets-clause-tells
returns-in-JoinTickets-clause-tells c =
    subst (λ q. IfOk c.join_tickets.result (λ _. (big : Sight) → Tells (changes_of (ticket_step (environment c.args.env.now) (minted_of c.args.ledger.now.books.present) (ticket_row q) (values big c.args.stack.now))) c.args.ledger.now c.join_tickets.new.ledger)) (sym c.in-JoinTickets.is)
    (told_here (λ e total big. Tells (changes_of (ticket_step e total i.join_tickets (values big c.args.stack.now))) c.args.ledger.now c.join_tickets.new.ledger) (environment c.args.env.now) (minted_of c.args.ledger.now.books.present) c.join_tickets.result c.join_tickets.ensures.tells)

pub read_ticket-requires : goal.read_ticket-requires
read_ticket-requires c = (
  environment c.args.env.now,
  minted_of c.args.ledger.now.books.present,
  subst (λ q. Fits (ticket_step (environment c.args.env.now) (minted_of c.args.ledger.now.books.present) (ticket_row q)) c.args.stack.now) c.in-ReadTicket.is c.requires.fits,
)

pub split_ticket-requires-clause-fits : goal.split_ticket-requires-clause-fits
split_ticket-requires-clause-fits c = (
  environment c.args.env.now,
  minted_of c.args.ledger.now.books.present,
  subst (λ q. Fits (ticket_step (environment c.args.env.now) (minted_of c.args.ledger.now.books.present) (ticket_row q)) c.args.stack.now) c.in-SplitTicket.is c.requires.fits,
)

pub join_tickets-requires-clause-fits : goal.join_tickets-requires-clause-fits
join_tickets-requires-clause-fits c = (
  environment c.args.env.now,
  minted_of c.args.ledger.now.books.present,
  subst (λ q. Fits (ticket_step (environment c.args.env.now) (minted_of c.args.ledger.now.books.present) (ticket_row q)) c.args.stack.now) c.in-JoinTickets.is c.requires.fits,
)
