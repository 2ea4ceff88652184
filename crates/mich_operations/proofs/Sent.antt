-- Transfers that contracts issue.
use Rattle.std.proofs.Common.{◌≡◌, ℕ, ◌∷◌, [], Bool, true, false, List, length, length-append, None, Some, Result, refl, sym, ap, ◌∙◌, subst, is_some, arith}
use Rattle.std.specs.Prelude.{if◌then◌else◌}
use Rattle.std.specs.Str.{bytes_eq}
use Rattle.std.specs.declared.option.Option.{Option}
use Rattle.std.proofs.lemmas.List.Elements.{All-head}
use Rattle.rules_code.specs.evaluation.Contracts.{hash_in, takes}
use Rattle.rules_code.specs.evaluation.Operations.{transfer}
use Rattle.rules_data.specs.forms.Spelling.{IsPlace, IsEntrypoint, contract_place, default_name, implicit_place, spelled_address, place_of, entrypoint_of, is_implicit, is_place}
use Rattle.rules_code.specs.instructions.Arguments.{found}
use Rattle.rules_code.specs.steps.Changes.{amount_in}
use Rattle.rules_code.specs.steps.Failure.{no_entrypoint}
use Rattle.rules_data.specs.types.Kind.{Kind}
use Rattle.rules_data.specs.values.Tickets.{Held}
use Rattle.rules_data.specs.values.Val.{Val}
use Rattle.rules_world.specs.world.Application.{issued_transaction}
use Rattle.rules_world.specs.world.Arguments.{value}
use Rattle.rules_world.specs.world.Gives.{as_value}
use Rattle.rules_world.specs.world.Good.{FitsIn, IsGoodWaiting, IsGoodOperation}
use Rattle.rules_world.specs.world.Outcomes.{Setting, Waiting, issued, failed, Counts as PlainCounts}
use Rattle.rules_world.specs.world.Targets.{Target, Search, met, search, on_met}
use Rattle.rules_world.specs.world.Transfers.{Transaction, as_ticket, delivered, to_account, with_argument, with_taken}
use Rattle.rules_world.specs.world.World.{World as PlainWorld, contract_at as plain_contract_at}
use Rattle.laws_world.proofs.runs.ForCallers.{IsMet, Searched, searched, address_takes, met_takes, orderly_of}
use Rattle.laws_world.proofs.groups_lemmas.ForCallers.{called_call, taken_transfer}
use Rattle.mich_bigmap.specs.Standing.{val_in}
use Rattle.mich_world.proofs.preconditions_lemmas.ForCallers.{transfers_may_run}
use Rattle.mich_forms.specs.Spelled.{place_bytes}
use Rattle.laws_data.proofs.forms_lemmas.ForCallers.{place_length}
use Rattle.mich_forms.specs.declared.places.Place.{Place}
use Rattle.mich_forms.specs.declared.places.Place.TheVariants as place
use Rattle.mich_state.specs.declared.state.Counts.{Counts}
use Rattle.mich_machine.specs.Calls.{counts_of}
use Rattle.mich_world.proofs.simulation_lemmas.ForCallers.{hash_of, implicit_of}
use Rattle.mich_term.specs.TicketView.{held}
use Rattle.mich_term.specs.declared.ticket.Ticket.{Ticket}
use Rattle.mich_term.specs.declared.value.Value.{Value}
use Rattle.mich_world.specs.Holders.{contract_at}
use Rattle.mich_world.specs.World.{World}
use Rattle.mich_operations.specs.Calls.{covered, IsDue}
use Rattle.mich_operations.specs.Going.{Begins, EndsAs}
use Rattle.mich_operations.specs.Transfers.{AreBetween, IsSent, transaction}
use Rattle.mich_operations.specs.declared.applied.Applied.{Applied}
use Rattle.mich_operations.specs.declared.applied.ApplyError.{ApplyError}
use Rattle.mich_operations.proofs.Entering.{place_is, name_is, takes_met}
use Rattle.mich_operations.proofs.Paying.{ends_along}
use Rattle.mich_operations.proofs.Ran.{there_in}

-- ---- to an account

-- an account takes what a contract sends at its one entrypoint
module _ (w : PlainWorld) (from : Place) (who name : List ℕ) (amount : ℕ) (x : Val) (gas : ℕ) (counts : Counts) (z : World) where
  abbrev T : Transaction
  T = transaction from (place.Implicit who) name amount (value x)

  pub account_takes : (r : Result Applied ApplyError) → name ≡ default_name →
      EndsAs (with_taken (Some x) w T gas (counts_of counts)) z gas counts counts r →
      EndsAs (to_account w T gas (counts_of counts)) z gas counts counts r
  account_takes r named h =
      ends_along (to_account w T gas (counts_of counts)) (with_taken (Some x) w T gas (counts_of counts)) z gas counts counts r
      (ap (λ (n : List ℕ). if bytes_eq n default_name then with_taken (Some x) w T gas (counts_of counts) else failed no_entrypoint) named)
      h

  -- a ticket that it sends
  pub takes_ticket : (v : World) (t : Ticket) (r : Result Applied ApplyError) → name ≡ default_name → x ≡ as_value (held t) → IsSent v w from who x
      → (IsSent v w from who (as_value (held t)) → EndsAs (with_taken (Some (as_value (held t))) w T gas (counts_of counts)) z gas counts counts r)
      → EndsAs (to_account w T gas (counts_of counts)) z gas counts counts r
  takes_ticket v t r named is sent h =
      account_takes r named
      (subst (λ (y : Val). EndsAs (with_taken (Some y) w T gas (counts_of counts)) z gas counts counts r) (sym is)
      (h (subst (λ (y : Val). IsSent v w from who y) is sent)))

no_held : (o : Option Held) → is_some o ≡ false → o ≡ None
no_held None h = refl
no_held (Some t) h = absurd cc

-- a value that is no ticket
pub no_ticket : (x : Val) {b : Bool} → b ≡ false → b ≡ is_some (as_ticket x) → as_ticket x ≡ None
no_ticket x f e = no_held (as_ticket x) (sym e ∙ f)

-- ---- to a place

twenty_so : (hash : List ℕ) → IsPlace (contract_place hash) → length hash ≡ 20
twenty_so hash h = let long : length (contract_place hash) ≡ 22 = place_length (contract_place hash) h in omega (arith, long, length-append hash (0 ∷ []))

module _ (v : World) (w : PlainWorld) (s : Setting) (by : List ℕ) (to : Place) (name : List ℕ) (amount : ℕ) (argument : Value) (counts : PlainCounts) (address : List ℕ)
    (spelled : spelled_address (place_bytes to) name ≡ address) (is_target : IsPlace (place_bytes to)) (is_name : IsEntrypoint name)
    (b : Begins v w s (issued (contract_place by) (transfer (val_in v.store.bases.present argument) amount address)) counts) where
  abbrev x : Val
  x = val_in v.store.bases.present argument

  abbrev op : Waiting
  op = issued (contract_place by) (transfer x amount address)

  first : (is_place (contract_place by) ≡ true) × IsGoodOperation w (transfer x amount address)
  first = All-head (IsGoodWaiting w) op b.next.behind b.next.going.good.waits

  goes : place_of address ≡ place_bytes to
  goes = ap place_of (sym spelled) ∙ place_is (place_bytes to) name is_target is_name

  enters : entrypoint_of address ≡ name
  enters = ap entrypoint_of (sym spelled) ∙ name_is (place_bytes to) name is_target is_name

  -- the transfer that it is by the bytes of its address
  spelled_ends : (gas left : ℕ) (old new : Counts) (z : World) (r : Result Applied ApplyError) →
      EndsAs (delivered (is_implicit (place_bytes to)) s w (transaction (place.Contract by) to name amount (value x)) gas (counts_of old)) z left old new r →
      EndsAs (delivered (is_implicit (place_of address)) s w (issued_transaction (contract_place by) x amount address) gas (counts_of old)) z left old new r
  spelled_ends gas left old new z r h =
      ends_along (delivered (is_implicit (place_of address)) s w (issued_transaction (contract_place by) x amount address) gas (counts_of old))
      (delivered (is_implicit (place_bytes to)) s w (transaction (place.Contract by) to name amount (value x)) gas (counts_of old)) z left old new r
      (λ i. delivered (is_implicit (goes i)) s w
      (record { sender = contract_place by; destination = goes i; entrypoint = enters i; amount = amount; argument = value x })
      gas (counts_of old))
      h

  module _ (who : List ℕ) (is : to ≡ place.Implicit who) where
    account : is_place (implicit_place who) ≡ true
    account = subst (λ (p : Place). IsPlace (place_bytes p)) is is_target

    sent_between : AreBetween v w (place.Contract by) (place.Implicit who)
    sent_between = record { stands = b.stands; form = b.next.going.good.sound.form; sender = first.0; receiver = account }

    pub sent_so : IsSent v w (place.Contract by) who x
    sent_so = record {
      between = sent_between;
      kind = first.1.0;
      fits = first.1.2;
      may = transfers_may_run w (contract_place by) x amount address b.next.behind b.next.going.good;
    }

    pub sends_account : (gas : ℕ) (counts : Counts) (z : World) (r : Result Applied ApplyError) →
        EndsAs (to_account w (transaction (place.Contract by) (place.Implicit who) name amount (value x)) gas (counts_of counts)) z gas counts counts r →
        EndsAs (delivered (is_implicit (place_of address)) s w (issued_transaction (contract_place by) x amount address) gas (counts_of counts)) z gas counts counts r
    sends_account gas counts z r h =
        spelled_ends gas gas counts counts z r
        (ends_along (delivered (is_implicit (place_bytes to)) s w (transaction (place.Contract by) to name amount (value x)) gas (counts_of counts))
        (to_account w (transaction (place.Contract by) (place.Implicit who) name amount (value x)) gas (counts_of counts)) z gas counts counts r
        (ap (λ (p : Place). delivered (is_implicit (place_bytes p)) s w (transaction (place.Contract by) p name amount (value x)) gas (counts_of counts)) is
        ∙ ap (λ (i : Bool). delivered i s w (transaction (place.Contract by) (place.Implicit who) name amount (value x)) gas (counts_of counts)) (implicit_of who account))
        h)

  module _ (hash : List ℕ) (is : to ≡ place.Contract hash) where
    abbrev sending : Transaction
    sending = transaction (place.Contract by) (place.Contract hash) name amount (value x)

    same_hash : hash_in (contract_place hash) ≡ hash
    same_hash = hash_of hash (twenty_so hash (subst (λ (p : Place). IsPlace (place_bytes p)) is is_target))

    goes_there : place_of address ≡ contract_place hash
    goes_there = goes ∙ ap place_bytes is

    takes_it : takes (plain_contract_at w) (contract_place hash) name first.1.0 ≡ true
    takes_it =
        subst (λ (p : List ℕ). takes (plain_contract_at w) p name first.1.0 ≡ true) goes_there
        (subst (λ (n : List ℕ). takes (plain_contract_at w) (place_of address) n first.1.0 ≡ true) enters
        (address_takes (plain_contract_at w) first.1.0 address first.1.1))

    met_there : (t : Target) × (search w hash name ≡ met t)
    met_there = takes_met w hash name first.1.0 (orderly_of w b.next.going.good.sound) same_hash takes_it

    met_so : IsMet w met_there.0 × (met_there.0.hash ≡ hash) × (met_there.0.entry.name ≡ name)
    met_so = subst (Searched w hash name) met_there.1 (searched w (orderly_of w b.next.going.good.sound) hash name)

    same_kind : met_there.0.entry.kind ≡ first.1.0
    same_kind = met_takes w met_there.0 first.1.0 (contract_place hash) name met_so.0 refl (met_so.1 ∙ sym same_hash) met_so.2 takes_it

    there : is_some (contract_at v.funds.present hash) ≡ true
    there =
        sym (there_in v w hash b.stands)
        ∙ ap (λ (q : List ℕ). is_some (plain_contract_at w q)) (sym met_so.1)
        ∙ ap is_some met_so.0.there

    pub sent_due : (t : Target) × IsDue v w s counts (place.Contract by) hash name amount argument t
    sent_due = (
      met_there.0,
      record {
        stands = b.stands;
        form = b.next.going.good.sound.form;
        sender = first.0;
        there = there;
        hash = met_so.1;
        named = met_so.2;
        call = λ enough.
            called_call b.next.start s b.next.setting b.next.contents b.next.few w sending b.next.behind counts (λ id. amount_in id x)
            (taken_transfer b.next.start s.group b.next.contents w b.next.behind counts (contract_place by) x amount address b.next.going)
            refl first.0 first.1.3 met_there.0 x met_so.0 (met_so.1 ∙ sym same_hash)
            (subst (λ (k : Kind). FitsIn w k x) (sym same_kind) first.1.2)
            (λ id. refl)
            enough;
      },
    )

    pub sends_contract : (gas left : ℕ) (old new : Counts) (z : World) (r : Result Applied ApplyError) →
        EndsAs (covered s w sending sent_due.0 x gas (counts_of old)) z left old new r →
        EndsAs (delivered (is_implicit (place_of address)) s w (issued_transaction (contract_place by) x amount address) gas (counts_of old)) z left old new r
    unfolding met_there sent_due
    sends_contract gas left old new z r k =
        spelled_ends gas left old new z r
        (ends_along (delivered (is_implicit (place_bytes to)) s w (transaction (place.Contract by) to name amount (value x)) gas (counts_of old))
        (covered s w sending met_there.0 x gas (counts_of old)) z left old new r
        (ap (λ (p : Place). delivered (is_implicit (place_bytes p)) s w (transaction (place.Contract by) p name amount (value x)) gas (counts_of old)) is
        ∙ ap (λ (q : List ℕ). on_met (search w q name) (λ target. with_argument (found x) s w sending target gas (counts_of old))) same_hash
        ∙ ap (λ (q : Search). on_met q (λ target. with_argument (found x) s w sending target gas (counts_of old))) met_there.1)
        k)
