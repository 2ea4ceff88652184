-- Tickets that come to accounts.
use Rattle.std.proofs.Common.{◌≡◌, ◌≤◌, ◌<◌, ◌==◌, ◌&&◌, ℕ, List, [], ◌∷◌, map, Bool, true, false, cond, is_some, None, Some, Ok, Err, Result, IfOk, refl, sym, ap, ◌∙◌, subst}
use Rattle.std.specs.Prelude.{nat_lt, if◌then◌else◌, ◌+ℤ◌, ◌≤ℤ◌}
use Rattle.std.specs.BTreeMap.{is_at, insert_entry}
use Rattle.std.specs.List.{AllByRecursion}
use Rattle.std.specs.Map.{lookup}
use Rattle.std.specs.Ordering.{match_ordering, is_eq}
use Rattle.std.specs.declared.cmp.Ordering.{Ordering}
use Rattle.std.specs.declared.cmp.Ordering.TheVariants.{Less, Equal, Greater}
use Rattle.std.specs.declared.option.Option.{Option}
use Rattle.std.proofs.lemmas.List.Elements.{All-head}
use Rattle.rules_data.specs.forms.Spelling.{implicit_place, spelled_address, is_key_hash}
use Rattle.rules_code.specs.steps.Changes.{amount_of}
use Rattle.rules_code.specs.steps.Failure.{Failure, empty_transaction, balance_too_low}
use Rattle.rules_data.specs.values.Canonical.{canonical}
use Rattle.rules_data.specs.values.Val.{Val, Pairs}
use Rattle.rules_world.specs.world.Arguments.{Argument}
use Rattle.rules_world.specs.world.Balances.{balance_or_none, moved}
use Rattle.rules_world.specs.world.Forms.{IsTicket, IsWorld}
use Rattle.rules_world.specs.world.Gives.{as_value}
use Rattle.rules_world.specs.world.Good.{known_with}
use Rattle.rules_world.specs.world.Outcomes.{applied}
use Rattle.rules_world.specs.world.Receipts.{Transfer}
use Rattle.rules_world.specs.world.Transfers.{Transaction, account_failure, account_outcome, with_taken, received, with_ticket}
use Rattle.rules_world.specs.world.World.{World as PlainWorld}
use Rattle.laws_world.proofs.accounts.ForCallers.{ticket_positive}
use Rattle.laws_code.proofs.stacks.ForCallers.{tickets_good}
use Rattle.laws_world.proofs.runs.ForCallers.{moved_moves, orderly_of, at_itself}
use Rattle.mich_base.specs.Counted.{IsNotEmpty}
use Rattle.mich_base.specs.View.{tree}
use Rattle.mich_base.specs.declared.node.Node.{Node}
use Rattle.mich_bigmap.specs.Bases.{Bases}
use Rattle.mich_bigmap.specs.Extended.{Extends}
use Rattle.mich_bigmap.specs.Standing.{val_in, big_step_in}
use Rattle.mich_world.proofs.preconditions_lemmas.ForCallers.{credits_fit}
use Rattle.mich_forms.specs.Spelled.{place_bytes}
use Rattle.mich_forms.specs.declared.places.Place.{Place}
use Rattle.mich_forms.specs.declared.places.Place.TheVariants as place
use Rattle.mich_state.specs.declared.state.Counts.{Counts}
use Rattle.mich_machine.specs.Calls.{counts_of, IsHanded, IsHosting}
use Rattle.mich_ops.specs.Told.{told}
use Rattle.mich_ops.specs.View.{failure, effect as effect_of}
use Rattle.mich_ops.specs.declared.failure.Failure.{Failure as Why}
use Rattle.mich_ops.specs.declared.receipt.Effect.TheVariants as effect
use Rattle.mich_world.proofs.simulation_lemmas.ForCallers.{credits_agree}
use Rattle.mich_term.specs.TicketView.{held, identity}
use Rattle.mich_term.specs.ValueView.{value_step}
use Rattle.mich_term.specs.declared.ticket.Ticket.{Ticket}
use Rattle.mich_term.specs.declared.value.Value.{fold-roll-Value}
use Rattle.mich_term.specs.declared.value.Value.TheOpen.{Value-F}
use Rattle.mich_term.specs.declared.value.Value.TheVariants as values
use Rattle.mich_term.specs.declared.value.Value.TheVariants.{rolls-Ticket}
use Rattle.mich_tickets.specs.Effects.{Moves}
use Rattle.mich_tickets.specs.Limits.{IsPositive}
use Rattle.mich_tickets.specs.Most.{most}
use Rattle.mich_tickets.specs.Sums.{held_of}
use Rattle.mich_world.specs.Holders.{Holders, by_bytes, account_at, contract_at, may_receive, moved as moved_in, balance_or_none as balance_in}
use Rattle.mich_base.specs.undo.History.{Keeps}
use Rattle.mich_world.specs.Marks.{KeepsWorld}
use Rattle.mich_world.specs.Standing.{StandsFor}
use Rattle.mich_world.specs.World.{World, with_funds, with_ledger}
use Rattle.mich_world.proofs.ForCallers.{balance_or_none_is, moves_agree, ledger_lent}
use Rattle.mich_operations.specs.Going.{EndsAs, KeepsContracts, WithMemory, grown, issued_by}
use Rattle.mich_operations.specs.Transfers.{IsSent, transaction}
use Rattle.mich_operations.specs.declared.applied.Applied.{Applied}
use Rattle.mich_operations.specs.declared.applied.ApplyError.{ApplyError}
use Rattle.mich_operations.specs.declared.applied.ApplyError.TheVariants.{Failed, Memory}
use Rattle.mich_operations.proofs.Paying.{ends_failed, or_false, below, not_below}

-- ---- an account that mutez come to is there

pub inserted_here : {X : Type 0} (es : List (List ℕ × X)) (k : List ℕ) (n : X) → is_some (lookup (is_at (by_bytes k)) (insert_entry by_bytes es k n)) ≡ true
inserted_here [] k n = ap (λ (b : Bool). is_some (cond b (Some n) None)) (at_itself k)
inserted_here {X = X} (e ∷ es) k n = by (by_bytes k e.0) refl (inserted_here es k n)
  where
    either : (b : Bool) (x : X) (o : Option X) → is_some o ≡ true → is_some (cond b (Some x) o) ≡ true
    either true x o h = refl
    either false x o h = h

    by : (o : Ordering) → by_bytes k e.0 ≡ o → is_some (lookup (is_at (by_bytes k)) (insert_entry by_bytes es k n)) ≡ true →
        is_some (lookup (is_at (by_bytes k)) (match_ordering o ((k, n) ∷ e ∷ es) ((e.0, n) ∷ es) (e ∷ insert_entry by_bytes es k n))) ≡ true
    by Less h later = ap (λ (b : Bool). is_some (cond b (Some n) (lookup (is_at (by_bytes k)) (e ∷ es)))) (at_itself k)
    by Equal h later = ap (λ (o : Ordering). is_some (cond (is_eq o) (Some n) (lookup (is_at (by_bytes k)) es))) h
    by Greater h later = either (is_at (by_bytes k) e.0) e.1 (lookup (is_at (by_bytes k)) (insert_entry by_bytes es k n)) later

-- ---- a ticket

pub ticket_in : (bs : Bases) (t : Ticket) → val_in bs (values.Ticket t) ≡ as_value (held t)
ticket_in bs t = ap (val_in bs) (sym (rolls-Ticket t)) ∙ fold-roll-Value Val Pairs value_step (big_step_in bs) (Value-F.Ticket t)

and_false : (a : Bool) → (a && false) ≡ false
and_false true = refl
and_false false = refl

module _ (v : World) (w : PlainWorld) (from : Place) (to : List ℕ) (amount : ℕ) (t : Ticket) (sent : IsSent v w from to (as_value (held t))) where
  abbrev x : Val
  x = as_value (held t)

  key : is_key_hash to ≡ true
  key = or_false (is_key_hash to) sent.between.receiver

  balance_here : balance_in v.funds.present from ≡ balance_or_none w (place_bytes from)
  balance_here = balance_or_none_is v.funds.present v.store.bases.present v.ledger.books.present w from sent.between.stands.those sent.between.sender

  pub ticket_amount : IsPositive (held t)
  ticket_amount =
      let good = tickets_good (known_with w []) sent.kind x sent.fits in
      ticket_positive (held t) (All-head IsTicket (held t) [] good).1

  room_before : (held_of v.ledger.books.present (identity t.id) (implicit_place to) +ℤ t.amount) ≤ℤ most
  room_before = credits_fit v w to (held t) sent.between.stands sent.may key

  abbrev some_paid : Bool → Bool → Option Failure
  some_paid a b = if a then Some empty_transaction else if b then Some balance_too_low else None

  module _ (entry : List ℕ) (argument : Argument) where
    abbrev T : Transaction
    T = transaction from (place.Implicit to) entry amount argument

    no_fault : (b : Bool) → nat_lt (balance_or_none w (place_bytes from)) amount ≡ b → account_failure w T x ≡ some_paid false b
    no_fault b e = λ i. some_paid (and_false (amount == 0) i) (e i)

    pub sends_too_much : (z : World) (gas : ℕ) (counts : Counts) (f : Why) → balance_in v.funds.present from < amount → failure f ≡ told balance_too_low →
        EndsAs (with_taken (Some x) w T gas (counts_of counts)) z gas counts counts (Err (Failed f))
    sends_too_much z gas counts f low h =
        ends_failed _ z gas counts counts f balance_too_low
        (ap (λ o. account_outcome o w T x gas (counts_of counts))
        (no_fault true (below (balance_or_none w (place_bytes from)) amount (subst (λ (n : ℕ). n < amount) balance_here low)))) h

  module _ (payer : may_receive v.funds.present from ≡ true) (enough : amount ≤ balance_in v.funds.present from) (y : World) (same : y ≡ with_funds v y.funds)
      (moves : y.funds.present ≡ moved_in v.funds.present from (place.Implicit to) amount) where
    pub room : (held_of y.ledger.books.present (identity t.id) (implicit_place to) +ℤ t.amount) ≤ℤ most
    room = subst (λ (u : World). (held_of u.ledger.books.present (identity t.id) (implicit_place to) +ℤ t.amount) ≤ℤ most) (sym same) room_before

    abbrev next : PlainWorld
    next = moved w (place_bytes from) (implicit_place to) amount

    next_form : IsWorld next
    next_form = (moved_moves w (place_bytes from) (implicit_place to) amount (orderly_of w sent.may.sound)).orderly.form

    there_now : is_some (account_at y.funds.present to) ≡ true
    there_now = subst (λ (h : Holders). is_some (account_at h to) ≡ true) (sym moves) (inserted_here _ to _)

    next_stands : StandsFor y next
    next_stands = moves_agree v y w from (place.Implicit to) amount sent.between.stands sent.between.form sent.between.sender sent.between.receiver payer refl same moves

    pub sends_ticket : (z : World) (entry : List ℕ) (argument : Argument) (gas : ℕ) (counts : Counts) (literal : Node) (a : Applied) → z ≡ with_ledger y z.ledger →
        Moves (implicit_place to) (λ j. amount_of j (held t)) y.ledger.books.present z.ledger.books.present → tree literal ≡ canonical x →
        a.effect ≡ effect.Transfer from (record { place = place.Implicit to; entrypoint = entry }) amount literal [] → a.emitted ≡ [] → a.growth ≡ None →
        EndsAs (with_taken (Some x) w (transaction from (place.Implicit to) entry amount argument) gas (counts_of counts)) z gas counts counts (Ok a)
    sends_ticket z entry argument gas counts literal a e m printed done nothing alone = record {
      world = received w (T entry argument) x;
      stands = subst (λ (u : World). StandsFor u (with_ticket next to (Some (held t)))) (sym e) (credits_agree y next z.ledger to (held t) next_stands next_form key there_now ticket_amount m);
      same = ap (λ o. account_outcome o w (T entry argument) x gas (counts_of counts))
          (no_fault entry argument false (not_below (balance_or_none w (place_bytes from)) amount (subst (λ (n : ℕ). amount ≤ n) balance_here enough)))
          ∙ (λ i. applied (record {
            world = received w (T entry argument) x;
            emitted = map (issued_by z.store.bases.present a.by) (sym nothing i);
            effects = (ap (λ n. Transfer (place_bytes from) (spelled_address (implicit_place to) entry) amount n []) (sym printed) ∙ ap effect_of (sym done)) i ∷ grown (sym alone i);
            gas = gas;
            counts = counts_of counts;
          }));
      group = refl;
      handed = subst (AllByRecursion (IsHanded z.store.bases.present)) (sym nothing) tt;
      there = λ h. absurd (subst IsNotEmpty nothing h);
    }

-- a world in which contracts run, with another ledger
pub hosting_ledger : (y z : World) → z ≡ with_ledger y z.ledger → IsHosting y → IsHosting z
hosting_ledger y z e h = subst IsHosting (sym e) (record { typed = h.typed; stored = h.stored; ticketless = h.ticketless })

pub contracts_ledger : (y z : World) → z ≡ with_ledger y z.ledger → KeepsContracts y z
contracts_ledger y z e = λ hash h. subst (λ (u : World). is_some (contract_at u.funds.present hash) ≡ true) (sym e) h

pub keeps_ledger : (y z : World) → z ≡ with_ledger y z.ledger → Keeps y.ledger.books z.ledger.books → KeepsWorld y z
keeps_ledger y z e k = subst (KeepsWorld y) (sym e) (ledger_lent y y.ledger z.ledger refl k)

pub extends_ledger : (v y z : World) (r : Result Applied ApplyError) → y ≡ with_ledger v y.ledger → IfOk r (λ _. Extends y.store.bases.present z.store.bases.present)
    → IfOk r (λ _. Extends v.store.bases.present z.store.bases.present)
extends_ledger v y z (Ok a) e h = subst (λ (u : World). Extends u.store.bases.present z.store.bases.present) e h
extends_ledger v y z (Err f) e h = tt

pub kept_either : (r : Result Applied ApplyError) (v y : World) → KeepsWorld v y → WithMemory r (KeepsWorld v y)
kept_either (Ok a) v y h = h
kept_either (Err (Failed f)) v y h = h
kept_either (Err Memory) v y h = tt
