-- Those that are left may be burnt one after the other.
use Rattle.std.proofs.Common.{rules, ◌≡◌, List, [], ◌∷◌, ◌++◌, map, append_assoc, sym, ap, ◌∙◌, subst}
use Rattle.std.specs.Vec.Iter.{into_iter_items}
use Rattle.mich_base.proofs.undo_lemmas.ForCallers.{keeps_same, keeps_trans}
use Rattle.mich_term.specs.TicketView.{held}
use Rattle.mich_term.specs.declared.ticket.Ticket.{Ticket}
use Rattle.mich_tickets.specs.Limits.{IsReady}
use Rattle.mich_tickets.proofs.ForCallers.{ready_first, ready_next}
use Rattle.mich_step.proofs.Ledgers.{tells_same, tells_put, left_ready}
use Rattle.mich_step.proofs.burning.burn_all.Goals as goal

pub loop-ticket-init : goal.loop-ticket-init
loop-ticket-init c =
    let all : into_iter_items c.into_iter-ticket-iterator.result ≡ c.args.tickets = search rules in
    record {
      told = tells_same c.args.ledger.now;
      ready = subst (λ (l : List Ticket). IsReady c.args.ledger.now.books.present (map held l)) (sym all) c.requires;
      place = all;
      keeps = keeps_same _;
    }

pub burn-requires-clause-positive : goal.burn-requires-clause-positive
burn-requires-clause-positive c =
    let iter = into_iter_items c.loop-ticket.ticket-iterator in
    let rest = into_iter_items c.next.new.self in
    let first : iter ≡ c.in-Some.ticket ∷ rest = search rules in
    (left_ready c.loop-ticket.ledger iter rest c.in-Some.ticket first c.loop-ticket.invariant.ready).positive.0

pub burn-requires-clause-within : goal.burn-requires-clause-within
burn-requires-clause-within c =
    let iter = into_iter_items c.loop-ticket.ticket-iterator in
    let rest = into_iter_items c.next.new.self in
    let first : iter ≡ c.in-Some.ticket ∷ rest = search rules in
    ready_first c.loop-ticket.ledger.books.present (held c.in-Some.ticket) (map held rest)
    (left_ready c.loop-ticket.ledger iter rest c.in-Some.ticket first c.loop-ticket.invariant.ready)

pub loop-ticket-preserved : goal.loop-ticket-preserved
loop-ticket-preserved c =
    let iter = into_iter_items c.loop-ticket.ticket-iterator in
    let rest = into_iter_items c.next.new.self in
    let t = c.in-Some.ticket in
    let mid = c.loop-ticket.ledger in
    let first : iter ≡ t ∷ rest = search rules in
    record {
      told = tells_put c.loop-ticket.yielded t c.args.ledger.now mid c.burn.new.self c.loop-ticket.invariant.told c.in_ok-burn.ensures.tells;
      ready = ready_next (held t) (map held rest) mid c.burn.new.self c.in_ok-burn.ensures.tells (left_ready mid iter rest t first c.loop-ticket.invariant.ready);
      place = append_assoc c.loop-ticket.yielded (t ∷ []) rest ∙ ap (λ (x : List Ticket). c.loop-ticket.yielded ++ x) (sym first) ∙ c.loop-ticket.invariant.place;
      keeps = keeps_trans _ _ _ c.loop-ticket.invariant.keeps c.in_ok-burn.ensures.keeps;
    }
