use Rattle.std.proofs.Common.{rules, ◌≡◌, ◌+◌, List, [], map, drop, sym, subst, arith}
use Rattle.std.specs.Int.{w128}
use Rattle.std.specs.Prelude.{ℤ, FitsSigned}
use Rattle.std.proofs.lemmas.Int.{to_z-of_z}
use Rattle.std.proofs.lemmas.Grind.{common_steps}
use Rattle.rules_files.specs.snapshots.Rules.{has_total}
use Rattle.mich_term.specs.TicketView.{held, identity}
use Rattle.mich_term.specs.declared.ticket.Ticket.{Ticket}
use Rattle.mich_snapshot.specs.Sums.{Finds, more, more_tickets}
use Rattle.mich_snapshot.proofs.Left.{first_left}
use Rattle.mich_snapshot.proofs.Steps.{TicketsLeft, tickets_end, tickets_go, tickets_start, tickets_stop}
use Rattle.mich_snapshot.proofs.sums.Sums.add_all.Goals as goal

pub loop-ticket-init : goal.loop-ticket-init
loop-ticket-init c = λ s found h.
    let all = map held c.args.tickets.now in
    subst (λ (l : List Ticket). TicketsLeft s found all (map held l) c.args.self.now.found.entries) (sym c.as_slice-ticket-items.ensures)
    (tickets_start s found all c.args.self.now.found.entries h)

pub returns-then-not-add : goal.returns-then-not-add
returns-then-not-add c = λ s found h.
    let all = map held c.args.tickets.now in
    let items = c.as_slice-ticket-items.result.now in
    let i = c.loop-ticket.ticket-index in
    let x = c.ticket-item.result in
    let fits : FitsSigned w128 x.amount = search rules in
    let same = to_z-of_z w128 x.amount fits in
    let way = subst (λ (l : List Ticket). TicketsLeft s found all (map held l) c.loop-ticket.self.found.entries) (first_left items i x c.loop-ticket-test.true c.ticket-item.is)
    (c.loop-ticket.invariant s found h) in
    tickets_stop s found (more_tickets found all) all (held x) (map held (drop (i + 1) items)) c.loop-ticket.self.found.entries c.add.new.self.found.entries c.add.result
    c.if-not-add.true way (λ f g. subst (λ (n : ℤ). Finds s (has_total s (identity x.id)) (more f (identity x.id) n) c.add.new.self.found.entries c.add.result) same (c.add.ensures s f g))

pub loop-ticket-preserved : goal.loop-ticket-preserved
loop-ticket-preserved c = λ s found h.
    let all = map held c.args.tickets.now in
    let items = c.as_slice-ticket-items.result.now in
    let i = c.loop-ticket.ticket-index in
    let x = c.ticket-item.result in
    let fits : FitsSigned w128 x.amount = search rules in
    let same = to_z-of_z w128 x.amount fits in
    let way = subst (λ (l : List Ticket). TicketsLeft s found all (map held l) c.loop-ticket.self.found.entries) (first_left items i x c.loop-ticket-test.true c.ticket-item.is)
    (c.loop-ticket.invariant s found h) in
    tickets_go s found all (held x) (map held (drop (i + 1) items)) c.loop-ticket.self.found.entries c.add.new.self.found.entries c.add.result
    c.if-not-add.false way (λ f g. subst (λ (n : ℤ). Finds s (has_total s (identity x.id)) (more f (identity x.id) n) c.add.new.self.found.entries c.add.result) same (c.add.ensures s f g))

pub returns : goal.returns
returns c = λ s found h.
    let all = map held c.args.tickets.now in
    let none : drop c.loop-ticket.ticket-index c.as_slice-ticket-items.result.now ≡ [] = grind (arith, common_steps) in
    tickets_end s found all c.loop-ticket.self.found.entries
    (subst (λ (l : List Ticket). TicketsLeft s found all (map held l) c.loop-ticket.self.found.entries) none (c.loop-ticket.invariant s found h))
