-- Those that are left may come one after the other.
use Rattle.std.proofs.Common.{rules, arith, SFits, ◌≡◌, ℤ, ◌+ℤ◌, ◌≤ℤ◌, List, [], ◌∷◌, map, to_z, of_z, sym, ap, ◌∙◌, subst}
use Rattle.std.specs.Int.{w128}
use Rattle.std.proofs.lemmas.Int.{to_z-of_z}
use Rattle.std.proofs.lemmas.Grind.{common_steps}
use Rattle.std.specs.Vec.Iter.{into_iter_items}
use Rattle.rules_code.specs.steps.Changes.{amount_of}
use Rattle.rules_data.specs.forms.Spelling.{implicit_place}
use Rattle.mich_term.specs.TicketView.{held, identity}
use Rattle.mich_term.specs.declared.ticket.Ticket.{Ticket}
use Rattle.mich_term.specs.declared.ticket.TicketId.{TicketId}
use Rattle.mich_tickets.specs.Carrying.{MayEnter, Enters}
use Rattle.mich_tickets.specs.Effects.{Moves}
use Rattle.mich_tickets.specs.Limits.{IsPositive}
use Rattle.mich_tickets.specs.Most.{most}
use Rattle.mich_tickets.specs.Sums.{held_of}
use Rattle.mich_world.specs.Restoring.{ticket_of}
use Rattle.mich_world.proofs.restoring_lemmas.Gifts.{enter_first, enter_next, enters_none, enters_then}
use Rattle.mich_world.proofs.restoring.put_held.Goals as goal

abbrev made : TicketId → ℤ → Ticket
made id n = record { id = id; amount = n }

passed : (id : TicketId) (n : ℤ) → SFits w128 n → made id (to_z w128 (of_z w128 n)) ≡ made id n
passed id n fits = ap (made id) (to_z-of_z w128 n fits)

pub loop-id-init : goal.loop-id-init
loop-id-init c =
    let all : into_iter_items c.into_iter-id-iterator.result ≡ c.args.held = search rules in
    let o = implicit_place c.args.who in
    let b = c.args.ledger.now.books.present in
    record {
      may = subst (λ (l : List (TicketId × ℤ)). MayEnter o b (map ticket_of l)) (sym all) c.requires;
      goes = λ x p. subst (λ (l : List (TicketId × ℤ)). Enters o (map ticket_of l) b x) all p;
    }

pub credit-requires-clause-positive : goal.credit-requires-clause-positive
credit-requires-clause-positive c =
    let rest = into_iter_items c.next.new.self in
    let first : into_iter_items c.loop-id.id-iterator ≡ (c.in-Some.id, c.in-Some.amount) ∷ rest = search rules in
    let small : SFits w128 c.in-Some.amount = search rules in
    subst (λ (t : Ticket). IsPositive (held t)) (sym (c.so_much.ensures ∙ passed c.in-Some.id c.in-Some.amount small))
    (subst (λ (l : List (TicketId × ℤ)). MayEnter (implicit_place c.args.who) c.loop-id.ledger.books.present (map ticket_of l)) first c.loop-id.invariant.may).positive.0

pub credit-requires-clause-room : goal.credit-requires-clause-room
credit-requires-clause-room c =
    let rest = into_iter_items c.next.new.self in
    let o = implicit_place c.args.who in
    let b = c.loop-id.ledger.books.present in
    let first : into_iter_items c.loop-id.id-iterator ≡ (c.in-Some.id, c.in-Some.amount) ∷ rest = search rules in
    let small : SFits w128 c.in-Some.amount = search rules in
    subst (λ (t : Ticket). (held_of b (identity t.id) o +ℤ t.amount) ≤ℤ most) (sym (c.so_much.ensures ∙ passed c.in-Some.id c.in-Some.amount small))
    (enter_first o (ticket_of (c.in-Some.id, c.in-Some.amount)) (map ticket_of rest) b
    (subst (λ (l : List (TicketId × ℤ)). MayEnter o b (map ticket_of l)) first c.loop-id.invariant.may))

pub loop-id-preserved : goal.loop-id-preserved
loop-id-preserved c =
    let rest = into_iter_items c.next.new.self in
    let t : TicketId × ℤ = (c.in-Some.id, c.in-Some.amount) in
    let o = implicit_place c.args.who in
    let a = c.loop-id.ledger.books.present in
    let b = c.credit.new.self.books.present in
    let first : into_iter_items c.loop-id.id-iterator ≡ t ∷ rest = search rules in
    let small : SFits w128 c.in-Some.amount = search rules in
    let moves = subst (λ (x : Ticket). Moves o (λ j. amount_of j (held x)) a b) (c.so_much.ensures ∙ passed c.in-Some.id c.in-Some.amount small) c.in_ok-credit.ensures.moves in
    record {
      may = enter_next o (ticket_of t) (map ticket_of rest) a b (subst (λ (l : List (TicketId × ℤ)). MayEnter o a (map ticket_of l)) first c.loop-id.invariant.may) moves;
      goes = λ x p. c.loop-id.invariant.goes x
          (subst (λ (l : List (TicketId × ℤ)). Enters o (map ticket_of l) a x) (sym first) (enters_then o (ticket_of t) (map ticket_of rest) a b x moves p));
    }

pub returns : goal.returns
returns c =
    let none : into_iter_items c.loop-id.id-iterator ≡ [] = grind (arith, common_steps) in
    let o = implicit_place c.args.who in
    let b = c.loop-id.ledger.books.present in
    c.loop-id.invariant.goes b (subst (λ (l : List (TicketId × ℤ)). Enters o (map ticket_of l) b b) (sym none) (enters_none o b))
