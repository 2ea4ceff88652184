use Rattle.std.proofs.Common.{rules, ◌≡◌, ◌∷◌}
use Rattle.rules_world.specs.lines.Nodes.{line}
use Rattle.mich_term.specs.TicketView.{identity}
use Rattle.mich_report.specs.Amounts.{Amounts}
use Rattle.mich_report.specs.State.{ticket_of}
use Rattle.mich_report.proofs.Rest.{ticket_more}
use Rattle.mich_report.proofs.state.add_tickets.Goals as goal

pub tickets-preserved : goal.tickets-preserved
tickets-preserved c =
    let iter : Amounts = c.tickets.id-iterator in
    let rest : Amounts = c.next.new.self in
    let first : iter ≡ (c.in-Some.id.now, c.in-Some.amount.now) ∷ rest = search rules in
    let text : c.in_ok-ticket_line.field-0 ≡ line (ticket_of c.args.ledger.now.books.present (identity c.in-Some.id.now, c.in-Some.amount.now)) = search rules in
    ticket_more c.args.ledger.now.books.present _ _ _ c.in_ok-ticket_line.field-0 c.in-Some.id.now c.in-Some.amount.now iter rest
    c.in_ok-push.ensures.pushed text first c.tickets.invariant
