-- A ticket is split as the rule of SPLIT_TICKET says.
use Rattle.std.specs.Int.{w128}
use Rattle.std.proofs.lemmas.Int.{to_z-of_z}
use Rattle.std.proofs.Common.{rules, SFits, ◌≡◌, [], ◌∷◌, ap, ◌∙◌}
use Rattle.rules_data.specs.values.Val.{number, both}
use Rattle.rules_code.specs.steps.TicketSteps.{as_value}
use Rattle.mich_term.specs.TicketView.{held}
use Rattle.mich_term.specs.ValueView.{big_step}
use Rattle.mich_stack.specs.Views.{values, plain}
use Rattle.mich_tickets.proofs.ForCallers.{ready_first}
use Rattle.mich_step.proofs.Splitting.{split_ready, split_by}
use Rattle.mich_step.proofs.tickets.split_ticket.Goals as goal

pub split-requires-clause-within : goal.split-requires-clause-within
split-requires-clause-within c =
    let t = c.in_ok-ticket.ticket in
    let b = c.args.ledger.now.books.present in
    ready_first b (held t) [] (split_ready b (plain c.args.stack.now) t (plain c.pop.new.stack)
    (c.in-Some.ensures big_step ∙ ap (λ v. v ∷ plain c.pop.new.stack) (c.in_ok-ticket.ensures big_step)) c.requires.ready)

pub returns-clause-tells : goal.returns-clause-tells
returns-clause-tells c = λ e total big.
    let t = c.in_ok-ticket.ticket in
    let a = c.in_ok-a.a in
    let b = c.in_ok-a.b in
    let V = values big c.args.stack.now in
    let W = values big c.take_amounts.new.stack in
    let parts = c.in_ok-parts.parts in
    let old = c.args.ledger.now in
    let new = c.split.new.self in
    let operands : V ≡ as_value (held t) ∷ both (number a) (number b) ∷ W =
    c.in-Some.ensures big ∙ (λ i. c.in_ok-ticket.ensures big i ∷ c.in_ok-a.ensures big i) in
    let fits_a : SFits w128 a = search rules in
    let fits_b : SFits w128 b = search rules in
    split_by e total W V t a b _ _ parts old new (to_z-of_z w128 a fits_a) (to_z-of_z w128 b fits_b) operands c.in_ok-parts.ensures.answer
