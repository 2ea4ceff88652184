-- Gifts that a source orders.
use Rattle.std.proofs.Common.{◌≡◌, ◌<◌, ◌^◌, ℕ, ℤ, ◌≤ℤ◌, ◌<ℤ◌, List, ◌∷◌, Bool, true, false, Some, Err, Result, refl, sym, ap, ◌∙◌, subst, is_some}
use Rattle.std.specs.Prelude.{neg_ℤ}
use Rattle.std.specs.declared.option.Option.{Option}
use Rattle.std.proofs.lemmas.List.Elements.{All-head}
use Rattle.rules_text.specs.nodes.Tree.{Tree, size}
use Rattle.rules_code.specs.evaluation.Contracts.{hash_in}
use Rattle.rules_data.specs.forms.Spelling.{contract_place, implicit_place, is_contract, is_implicit}
use Rattle.rules_data.specs.gas.Prices.{Listed}
use Rattle.rules_code.specs.instructions.Same.{same_kind}
use Rattle.rules_code.specs.steps.Changes.{amount_of}
use Rattle.rules_code.specs.steps.Failure.{Failure, bad_parameter, no_contract, no_entrypoint, ticket_short}
use Rattle.rules_data.specs.types.Kind as k
use Rattle.rules_data.specs.values.Forms.{is_ticket_amount}
use Rattle.rules_data.specs.values.Tickets.{Held}
use Rattle.rules_data.specs.values.Val.{Val}
use Rattle.rules_world.specs.world.Contents.{Action, Give}
use Rattle.rules_world.specs.world.Forms.{AreDestination, IsSmall, IsTicket}
use Rattle.rules_world.specs.world.Gives.{Gift, Offer, as_value, give_account, give_contract, give_effect, given_to_contract, handed, if_wanted, is_short, offered, with_offered}
use Rattle.rules_world.specs.world.Good.{FitsIn, IsGoodWaiting}
use Rattle.rules_world.specs.world.Groups.{setting_of}
use Rattle.rules_world.specs.world.Holdings.{debited}
use Rattle.rules_world.specs.world.Outcomes.{Setting, ordered, Counts as PlainCounts}
use Rattle.rules_world.specs.world.Runs.{run}
use Rattle.rules_world.specs.world.Targets.{Target, Search, met, missing, on_met, search}
use Rattle.rules_world.specs.world.World.{World as PlainWorld, contract_at as plain_contract_at}
use Rattle.laws_world.proofs.runs.ForCallers.{IsMet, Searched, searched, orderly_of}
use Rattle.laws_world.proofs.groups_lemmas.ForCallers.{IsOffered, offered_is}
use Rattle.mich_bigmap.specs.Bases.{Bases}
use Rattle.mich_bigmap.specs.Standing.{val_in}
use Rattle.mich_forms.specs.Spelled.{place_bytes}
use Rattle.mich_forms.specs.declared.places.Place.{Place}
use Rattle.mich_forms.specs.declared.places.Place.TheVariants as place
use Rattle.mich_state.specs.declared.state.Counts.{Counts}
use Rattle.mich_machine.specs.Calls.{counts_of}
use Rattle.mich_ops.specs.Told.{told}
use Rattle.mich_ops.specs.View.{failure}
use Rattle.mich_ops.specs.declared.failure.Failure.{Failure as Why}
use Rattle.mich_ops.specs.declared.failure.Failure.TheVariants as failures
use Rattle.mich_world.proofs.simulation_lemmas.ForCallers.{hash_of, implicit_of, place_length}
use Rattle.mich_term.specs.TicketView.{held, identity}
use Rattle.mich_term.specs.declared.ticket.Ticket.{Ticket}
use Rattle.mich_term.specs.declared.ticket.TicketId.{TicketId}
use Rattle.mich_term.specs.declared.value.Value.TheVariants as values
use Rattle.mich_tickets.specs.Effects.{Moves}
use Rattle.mich_tickets.specs.Sums.{held_of}
use Rattle.mich_world.specs.Holders.{contract_at}
use Rattle.mich_world.specs.World.{World, with_ledger}
use Rattle.mich_operations.specs.Calls.{IsCalled, IsReady, call_of}
use Rattle.mich_operations.specs.Gifts.{IsGiven, IsHandedOver, IsTakenFrom, IsWanted, gift, tickets_of}
use Rattle.mich_operations.specs.Going.{Begins, EndsAs}
use Rattle.mich_operations.specs.declared.applied.Applied.{Applied}
use Rattle.mich_operations.specs.declared.applied.ApplyError.{ApplyError}
use Rattle.mich_operations.specs.declared.applied.ApplyError.TheVariants.{Failed, Memory}
use Rattle.mich_operations.proofs.Credited.{ticket_in}
use Rattle.mich_operations.proofs.Given.{enough_so, gone_stands, short_so}
use Rattle.mich_operations.proofs.Handing.{handed_call}
use Rattle.mich_operations.proofs.Paying.{ends_along, ends_failed}
use Rattle.mich_operations.proofs.Ran.{ends_memory, there_in}

-- ---- what is ordered

module _ (v : World) (w : PlainWorld) (s : Setting) (issuer : List ℕ) (kind content : Tree) (amount : ℤ) (to : Place) (name : List ℕ) (counts : PlainCounts)
    (b : Begins v w s (ordered (Give issuer kind content amount (place_bytes to) name)) counts) where
  abbrev o : Offer
  o = record { issuer = issuer; kind = kind; content = content; amount = amount }

  abbrev order : Action
  order = Give issuer kind content amount (place_bytes to) name

  action : (is_contract issuer ≡ true) × (is_ticket_amount amount ≡ true) × AreDestination (place_bytes to) name × IsSmall content
  action = All-head (IsGoodWaiting w) (ordered order) b.next.behind b.next.going.good.waits

  pub small : size content < 2 ^ 32
  small = action.3

  module _ (id : TicketId) (is : offered o ≡ Some (tickets_of id amount)) where
    abbrev t : Held
    t = tickets_of id amount

    form : IsTicket t × FitsIn w (k.ticket t.kind) (as_value t)
    form = subst (IsOffered w) is (offered_is w o action.0 action.1 action.3)

    pub given_to : (p : Place) → to ≡ p → IsGiven v w s.source t p
    given_to p e = subst (IsGiven v w s.source t) e (record {
      stands = b.stands;
      waiting = ordered order ∷ b.next.behind;
      good = b.next.going.good;
      key = b.next.setting.source;
      ticket = form.0;
      receiver = action.2.0;
    })

    pub handed_over : (hash : List ℕ) → to ≡ place.Contract hash → IsHandedOver v w s counts t hash name
    handed_over hash e = record {
      given = given_to (place.Contract hash) e;
      call = λ target is_met wanted enough.
          handed_call b.next.start s b.next.setting b.next.contents b.next.few w b.next.behind counts order b.next.going t target form.0 form.1
          (subst (Searched w hash name) is_met (searched w (orderly_of w b.next.going.good.sound) hash name)).0 wanted enough;
    }

    pub ends_account : (who : List ℕ) → to ≡ place.Implicit who → (gas : ℕ) (cs : Counts) (z : World) (r : Result Applied ApplyError)
        → EndsAs (give_account s w (gift t (place.Implicit who) name) gas (counts_of cs)) z gas cs cs r
        → EndsAs (with_offered (offered o) s w (place_bytes to) name gas (counts_of cs)) z gas cs cs r
    ends_account who e gas cs z r h =
        ends_along (with_offered (offered o) s w (place_bytes to) name gas (counts_of cs)) (give_account s w (gift t (place.Implicit who) name) gas (counts_of cs)) z gas cs cs r
        (ap (λ (q : Option Held). with_offered q s w (place_bytes to) name gas (counts_of cs)) is
        ∙ ap (λ (p : Place). handed (is_implicit (place_bytes p)) s w (gift t p name) gas (counts_of cs)) e
        ∙ ap (λ (c : Bool). handed c s w (gift t (place.Implicit who) name) gas (counts_of cs)) (implicit_of who (given_to (place.Implicit who) e).receiver))
        h

    pub ends_contract : (hash : List ℕ) → to ≡ place.Contract hash → (gas left : ℕ) (old new : Counts) (z : World) (r : Result Applied ApplyError)
        → EndsAs (give_contract s w (gift t (place.Contract hash) name) gas (counts_of old)) z left old new r
        → EndsAs (with_offered (offered o) s w (place_bytes to) name gas (counts_of old)) z left old new r
    ends_contract hash e gas left old new z r h =
        ends_along (with_offered (offered o) s w (place_bytes to) name gas (counts_of old)) (give_contract s w (gift t (place.Contract hash) name) gas (counts_of old)) z left old new r
        (ap (λ (q : Option Held). with_offered q s w (place_bytes to) name gas (counts_of old)) is
        ∙ ap (λ (p : Place). handed (is_implicit (place_bytes p)) s w (gift t p name) gas (counts_of old)) e)
        h

-- ---- a contract that it goes to

module _ (v : World) (w : PlainWorld) (prices : Listed) (group : ℕ) (who : List ℕ) (counts : PlainCounts) (id : TicketId) (n : ℤ) (to name : List ℕ)
    (due : IsHandedOver v w (setting_of prices group who) counts (tickets_of id n) to name) where
  abbrev s : Setting
  s = setting_of prices group who

  abbrev gifted : Held
  gifted = tickets_of id n

  abbrev g : Gift
  g = gift gifted (place.Contract to) name

  same_hash : hash_in (contract_place to) ≡ to
  same_hash = hash_of to (place_length to due.given.receiver)

  searched_so : (q : Search) → search w to name ≡ q → (gas : ℕ) (cs : PlainCounts)
      → give_contract s w g gas cs ≡ on_met q (λ target. if_wanted (same_kind target.entry.kind (k.ticket gifted.kind)) s w g target gas cs)
  searched_so q e gas cs =
      ap (λ (h : List ℕ). on_met (search w h name) (λ target. if_wanted (same_kind target.entry.kind (k.ticket gifted.kind)) s w g target gas cs)) same_hash
      ∙ ap (λ (p : Search). on_met p (λ target. if_wanted (same_kind target.entry.kind (k.ticket gifted.kind)) s w g target gas cs)) e

  module _ (gas left : ℕ) (old new : Counts) (z : World) where
    abbrev Fails : Why → Type 0
    Fails f = EndsAs (give_contract s w g gas (counts_of old)) z left old new (Err (Failed f))

    lacking : (f : Why) (why : Failure) → search w to name ≡ missing why → failure f ≡ told why → Fails f
    lacking f why e h = ends_failed (give_contract s w g gas (counts_of old)) z left old new f why (searched_so (missing why) e gas (counts_of old)) h

    -- nothing there takes such tickets
    pub unwanted : (f : Why) → IsWanted {U = Unit {0}} (search w to name) gifted.kind (Err (Failed f)) → Fails f
    unwanted failures.NoContract h = lacking failures.NoContract no_contract h refl
    unwanted failures.NoEntrypoint h = lacking failures.NoEntrypoint no_entrypoint h refl
    unwanted (failures.BadParameter l) h =
        ends_failed (give_contract s w g gas (counts_of old)) z left old new (failures.BadParameter l) (bad_parameter l)
        (searched_so (met h.0) h.1 gas (counts_of old) ∙ ap (λ (c : Bool). if_wanted c s w g h.0 gas (counts_of old)) h.2
        ∙ ap (λ (m : ℕ). Rattle.rules_world.specs.world.Outcomes.failed (bad_parameter m)) (sym h.3)) refl
    unwanted _ h = absurd h

    pub not_wanted : (e : ApplyError) → IsWanted {U = Unit {0}} (search w to name) gifted.kind (Err e) → EndsAs (give_contract s w g gas (counts_of old)) z left old new (Err e)
    not_wanted (Failed f) h = unwanted f h
    not_wanted Memory h = absurd h

  module _ (target : Target) (is_met : search w to name ≡ met target) (wanted : same_kind target.entry.kind (k.ticket gifted.kind) ≡ true) where
    met_so : IsMet w target × (target.hash ≡ to) × (target.entry.name ≡ name)
    met_so = subst (Searched w to name) is_met (searched w (orderly_of w due.given.good.sound) to name)

    pub contract_there : is_some (contract_at v.funds.present to) ≡ true
    contract_there =
        sym (there_in v w to due.given.stands)
        ∙ ap (λ (q : List ℕ). is_some (plain_contract_at w q)) (sym met_so.1)
        ∙ ap is_some met_so.0.there

    enters : (b : Bool) → is_short s w g ≡ b → (gas : ℕ) (cs : PlainCounts) → give_contract s w g gas cs ≡ given_to_contract b s w g target gas cs
    enters b e gas cs =
        searched_so (met target) is_met gas cs
        ∙ ap (λ (c : Bool). if_wanted c s w g target gas cs) wanted
        ∙ ap (λ (c : Bool). given_to_contract c s w g target gas cs) e

    pub gives_short : held_of v.ledger.books.present (identity id) (implicit_place who) <ℤ n → (gas left : ℕ) (old new : Counts) (z : World)
        → EndsAs (give_contract s w g gas (counts_of old)) z left old new (Err (Failed failures.TicketShort))
    gives_short low gas left old new z =
        ends_failed (give_contract s w g gas (counts_of old)) z left old new failures.TicketShort ticket_short
        (enters true (short_so v w who id n (place.Contract to) due.given prices group name low) gas (counts_of old)) refl

    -- none were taken
    pub untaken_contract : (y : World) (e : ApplyError) → IsTakenFrom who id n v y (Err e) → (gas left : ℕ) (old new : Counts) (z : World)
        → EndsAs (give_contract s w g gas (counts_of old)) z left old new (Err e)
    untaken_contract y (Failed failures.TicketShort) low gas left old new z = gives_short low gas left old new z
    untaken_contract y (Failed _) low gas left old new z = absurd low
    untaken_contract y Memory low gas left old new z = ends_memory (give_contract s w g gas (counts_of old)) z left old new

    module _ (enough : n ≤ℤ held_of v.ledger.books.present (identity id) (implicit_place who)) (y : World) (same : y ≡ with_ledger v y.ledger)
        (goes : Moves (implicit_place who) (λ j. neg_ℤ (amount_of j gifted)) v.ledger.books.present y.ledger.books.present)
        (ticket : Ticket) (is : ticket ≡ record { id = id; amount = n }) where
      has : is_short s w g ≡ false
      has = enough_so v w who id n (place.Contract to) due.given prices group name enough

      abbrev gone : PlainWorld
      gone = debited w who gifted

      argument_is : (bs : Bases) → val_in bs (values.Ticket ticket) ≡ as_value gifted
      argument_is bs = ticket_in bs ticket ∙ ap (λ (u : Ticket). as_value (held u)) is

      pub gift_ready : IsReady y gone s counts (place.Implicit who) to name 0 (values.Ticket ticket) target
      gift_ready = record {
        stands = gone_stands v w who id n (place.Contract to) due.given enough y same goes;
        hash = met_so.1;
        named = met_so.2;
        call = subst (λ (x : Val). IsCalled s gone counts (place.Implicit who) 0 target x) (sym (argument_is y.store.bases.present)) (due.call target is_met wanted has);
      }

      pub gives_contract : (gas left : ℕ) (old new : Counts) (z : World) (r : Result Applied ApplyError)
          → EndsAs (run s gone (call_of (place.Implicit who) 0 target (val_in y.store.bases.present (values.Ticket ticket))) gas (counts_of old) (give_effect s g)) z left old new r
          → EndsAs (give_contract s w g gas (counts_of old)) z left old new r
      gives_contract gas left old new z r h =
          ends_along (give_contract s w g gas (counts_of old)) (given_to_contract false s w g target gas (counts_of old)) z left old new r
          (enters false has gas (counts_of old))
          (subst (λ (x : Val). EndsAs (run s gone (call_of (place.Implicit who) 0 target x) gas (counts_of old) (give_effect s g)) z left old new r)
          (argument_is y.store.bases.present) h)
