-- Each group ends and tells as its rule says.
use Rattle.std.proofs.Common.{sym, subst}
use Rattle.std.specs.Prelude.{IfOk, flat_map}
use Rattle.rules_data.specs.values.Tickets.{tickets}
use Rattle.rules_code.specs.steps.Stack.{stack_step, pair_step}
use Rattle.rules_code.specs.steps.Collections.{collection_step}
use Rattle.mich_stack.specs.Ends.{gone}
use Rattle.mich_overload.specs.View.{straight, stack_row, pair_row, collection_row, ticket_row}
use Rattle.mich_stack.specs.Views.{Sight, values, plain}
use Rattle.mich_tickets.specs.Effects.{Tells}
use Rattle.mich_tickets.specs.Sums.{minted_of}
use Rattle.mich_step.specs.Rule.{rule, ticket_stake}
use Rattle.mich_step.specs.Shown.{ShowsTickets}
use Rattle.mich_step.specs.Tells.{changes_of, IsDone}
use Rattle.mich_step.specs.Views.{environment}
use Rattle.mich_step.proofs.Splitting.{kept_done, kept_told, told_shown}
use Rattle.mich_step.proofs.Taken.{part_ready, stack_part, pair_part, collection_part, ticket_part}
use Rattle.mich_step.proofs.dispatching.step.Goals as goal

pub returns-in-Stack-clause-ends : goal.returns-in-Stack-clause-ends
returns-in-Stack-clause-ends c = λ big. subst (λ q. IsDone (rule (environment c.args.env.now) (minted_of c.args.ledger.now.books.present) (straight q) (values big c.args.stack.now)) (values big c.order.new.stack) c.order.result)
    (sym c.in-Stack.is) (c.order.ensures.ends big)

pub returns-in-Stack-clause-tells : goal.returns-in-Stack-clause-tells
returns-in-Stack-clause-tells c =
    subst (λ q. IfOk c.order.result (λ _. (big : Sight) → ShowsTickets big c.args.stack.now → Tells (changes_of (rule (environment c.args.env.now) (minted_of c.args.ledger.now.books.present) (straight q) (values big c.args.stack.now))) c.args.ledger.now c.order.new.ledger))
    (sym c.in-Stack.is) c.order.ensures.tells

pub returns-in-Pairs-clause-ends : goal.returns-in-Pairs-clause-ends
returns-in-Pairs-clause-ends c = λ big. subst (λ q. IsDone (rule (environment c.args.env.now) (minted_of c.args.ledger.now.books.present) (straight q) (values big c.args.stack.now)) (values big c.pairs.new.stack) c.pairs.result)
    (sym c.in-Pairs.is) (c.pairs.ensures.ends big)

pub returns-in-Pairs-clause-tells : goal.returns-in-Pairs-clause-tells
returns-in-Pairs-clause-tells c =
    subst (λ q. IfOk c.pairs.result (λ _. (big : Sight) → ShowsTickets big c.args.stack.now → Tells (changes_of (rule (environment c.args.env.now) (minted_of c.args.ledger.now.books.present) (straight q) (values big c.args.stack.now))) c.args.ledger.now c.pairs.new.ledger))
    (sym c.in-Pairs.is) c.pairs.ensures.tells

pub returns-in-Collections-clause-ends : goal.returns-in-Collections-clause-ends
returns-in-Collections-clause-ends c = λ big. subst (λ q. IsDone (rule (environment c.args.env.now) (minted_of c.args.ledger.now.books.present) (straight q) (values big c.args.stack.now)) (values big c.collections.new.stack) c.collections.result)
    (sym c.in-Collections.is) (c.collections.ensures.ends big)

pub returns-in-Collections-clause-tells : goal.returns-in-Collections-clause-tells
returns-in-Collections-clause-tells c =
    subst (λ q. IfOk c.collections.result (λ _. (big : Sight) → ShowsTickets big c.args.stack.now → Tells (changes_of (rule (environment c.args.env.now) (minted_of c.args.ledger.now.books.present) (straight q) (values big c.args.stack.now))) c.args.ledger.now c.collections.new.ledger))
    (sym c.in-Collections.is) c.collections.ensures.tells

pub returns-in-Tickets-clause-ends : goal.returns-in-Tickets-clause-ends
returns-in-Tickets-clause-ends c = λ big. subst (λ q. IsDone (rule (environment c.args.env.now) (minted_of c.args.ledger.now.books.present) (straight q) (values big c.args.stack.now)) (values big c.ticket_step.new.stack) c.ticket_step.result)
    (sym c.in-Tickets.is) (c.ticket_step.ensures.ends big)

pub returns-in-Tickets-clause-tells : goal.returns-in-Tickets-clause-tells
returns-in-Tickets-clause-tells c =
    subst (λ q. IfOk c.ticket_step.result (λ _. (big : Sight) → ShowsTickets big c.args.stack.now → Tells (changes_of (rule (environment c.args.env.now) (minted_of c.args.ledger.now.books.present) (straight q) (values big c.args.stack.now))) c.args.ledger.now c.ticket_step.new.ledger))
    (sym c.in-Tickets.is) (told_shown (λ big. ShowsTickets big c.args.stack.now) _ c.ticket_step.result c.ticket_step.ensures.tells)

pub returns-in_default-clause-ends : goal.returns-in_default-clause-ends
returns-in_default-clause-ends c = λ big. kept_done (rule (environment c.args.env.now) (minted_of c.args.ledger.now.books.present) (straight c.args.instr.now) (values big c.args.stack.now)) (values big c.quiet.new.stack) c.quiet.result
    (c.quiet.ensures (minted_of c.args.ledger.now.books.present) big)

pub returns-in_default-clause-tells : goal.returns-in_default-clause-tells
returns-in_default-clause-tells c =
    kept_told (λ big. ShowsTickets big c.args.stack.now) (λ big. rule (environment c.args.env.now) (minted_of c.args.ledger.now.books.present) (straight c.args.instr.now) (values big c.args.stack.now)) (λ big. values big c.quiet.new.stack)
    c.quiet.result c.args.ledger.now (c.quiet.ensures (minted_of c.args.ledger.now.books.present))

pub order-requires-clause-ready : goal.order-requires-clause-ready
order-requires-clause-ready c =
    let V = plain c.args.stack.now in
    let row = stack_row c.in-Stack.row in
    part_ready c.args.ledger.now.books.present (gone (stack_step row V)) (flat_map tickets V) (stack_part row V) c.requires.ready

pub pairs-requires-clause-ready : goal.pairs-requires-clause-ready
pairs-requires-clause-ready c =
    let V = plain c.args.stack.now in
    let row = pair_row c.in-Pairs.row in
    part_ready c.args.ledger.now.books.present (gone (pair_step row V)) (flat_map tickets V) (pair_part row V) c.requires.ready

pub collections-requires-clause-ready : goal.collections-requires-clause-ready
collections-requires-clause-ready c =
    let V = plain c.args.stack.now in
    let row = collection_row c.in-Collections.row in
    part_ready c.args.ledger.now.books.present (gone (collection_step row V)) (flat_map tickets V) (collection_part row V) c.requires.ready

pub ticket_step-requires-clause-ready : goal.ticket_step-requires-clause-ready
ticket_step-requires-clause-ready c =
    let V = plain c.args.stack.now in
    let row = ticket_row c.in-Tickets.row in
    part_ready c.args.ledger.now.books.present (ticket_stake row V) (flat_map tickets V) (ticket_part row V) c.requires.ready
