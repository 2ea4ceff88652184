-- A mint, and the burn of what is burnt.
use Rattle.std.proofs.Common.{rules, SFits, ◌≡◌, ℤ, pos, ◌+ℤ◌, ◌<ℤ◌, ◌≤ℤ◌, List, [], ◌∷◌, true, int_lt, to_z, of_z, sym, ap, ◌∙◌, subst, arith}
use Rattle.std.specs.Int.{w128}
use Rattle.std.proofs.lemmas.Int.{ints, to_z-of_z}
use Rattle.rules_code.specs.steps.Changes.{Change, minted, burnt}
use Rattle.mich_term.specs.TicketView.{held, identity}
use Rattle.mich_term.specs.declared.ticket.Ticket.{Ticket}
use Rattle.mich_term.specs.declared.ticket.TicketId.{TicketId}
use Rattle.mich_tickets.specs.Books.{Books}
use Rattle.mich_tickets.specs.Effects.{Adds}
use Rattle.mich_tickets.specs.Limits.{IsPositive}
use Rattle.mich_tickets.specs.Sums.{burnt_of, minted_of}
use Rattle.mich_world.proofs.restoring_lemmas.Totals.{so_much, burn_within, none_told, some_told}
use Rattle.mich_world.proofs.simulation_lemmas.Runs.{adds_then}
use Rattle.mich_world.proofs.restoring.put_total.Goals as goal

above : (n : ℤ) → (n ≡ pos 0 → ⊥) → pos 0 ≤ℤ n → pos 0 <ℤ n
above n e h = omega (arith, ints, e, h)

is_above : (n : ℤ) → pos 0 <ℤ n → int_lt (pos 0) n ≡ true
is_above n h = grind (arith, ints)

none_of : (n : ℤ) → SFits w128 n → of_z w128 n ≡ 0 → n ≡ pos 0
none_of n fits e = sym (to_z-of_z w128 n fits) ∙ ap (to_z w128) e

some_of : (n : ℤ) → (of_z w128 n ≡ 0 → ⊥) → n ≡ pos 0 → ⊥
some_of n f e = f (ap (of_z w128) e)

abbrev made : TicketId → ℤ → Ticket
made id n = record { id = id; amount = n }

passed : (id : TicketId) (n : ℤ) → SFits w128 n → made id (to_z w128 (of_z w128 n)) ≡ made id n
passed id n fits = ap (made id) (to_z-of_z w128 n fits)

minted_whole : (id : TicketId) (n : ℤ) (a b : Books) → SFits w128 n → Adds (minted (held (made id (to_z w128 (of_z w128 n)))) ∷ []) a b → Adds (minted (so_much id n) ∷ []) a b
minted_whole id n a b fits h = subst (λ (t : Ticket). Adds (minted (held t) ∷ []) a b) (passed id n fits) h

pub returns-then-totals-eq0 : goal.returns-then-totals-eq0
returns-then-totals-eq0 c =
    let a = c.args.ledger.now.books.present in
    let b = c.put_minted.new.ledger.books.present in
    let t = c.args.totals in
    let fits : SFits w128 t.minted = search rules in
    let small : SFits w128 t.burnt = search rules in
    subst (λ (l : List Change). Adds l a b) (sym (none_told c.args.id t (none_of t.burnt small c.if-totals-eq0.true)))
    (minted_whole c.args.id t.minted a b fits c.in_ok-put_minted.ensures)

pub burn-requires-clause-positive : goal.burn-requires-clause-positive
burn-requires-clause-positive c =
    let t = c.args.totals in
    let small : SFits w128 t.burnt = search rules in
    subst (λ (x : Ticket). IsPositive (held x)) (sym (c.so_much.ensures ∙ passed c.args.id t.burnt small))
    (above t.burnt (some_of t.burnt c.if-totals-eq0.false) c.requires.totals.burnt)

pub burn-requires-clause-within : goal.burn-requires-clause-within
burn-requires-clause-within c =
    let a = c.args.ledger.now.books.present in
    let b = c.put_minted.new.ledger.books.present in
    let t = c.args.totals in
    let fits : SFits w128 t.minted = search rules in
    let small : SFits w128 t.burnt = search rules in
    subst (λ (x : Ticket). (burnt_of b (identity x.id) +ℤ x.amount) ≤ℤ minted_of b (identity x.id)) (sym (c.so_much.ensures ∙ passed c.args.id t.burnt small))
    (burn_within c.args.id t a b c.requires.totals c.requires.burnt (minted_whole c.args.id t.minted a b fits c.in_ok-put_minted.ensures))

pub returns : goal.returns
returns c =
    let a = c.args.ledger.now.books.present in
    let b = c.put_minted.new.ledger.books.present in
    let z = c.burn.new.self.books.present in
    let t = c.args.totals in
    let fits : SFits w128 t.minted = search rules in
    let small : SFits w128 t.burnt = search rules in
    let burns = subst (λ (x : Ticket). Adds (burnt (held x) ∷ []) b z) (c.so_much.ensures ∙ passed c.args.id t.burnt small) c.in_ok-burn.ensures.tells.books in
    subst (λ (l : List Change). Adds l a z)
    (sym (some_told c.args.id t (is_above t.burnt (above t.burnt (some_of t.burnt c.if-totals-eq0.false) c.requires.totals.burnt))))
    (adds_then a b z (minted (so_much c.args.id t.minted) ∷ []) (burnt (so_much c.args.id t.burnt) ∷ [])
    (minted_whole c.args.id t.minted a b fits c.in_ok-put_minted.ensures) burns)
