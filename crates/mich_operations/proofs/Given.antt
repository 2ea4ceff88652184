-- Tickets that a source gives.
use Rattle.std.proofs.Common.{◌≡◌, ℕ, ℤ, ◌+ℤ◌, ◌≤ℤ◌, ◌<ℤ◌, List, [], ◌∷◌, map, Bool, true, false, None, Ok, Err, refl, sym, ap, ◌∙◌, subst, is_some, arith}
use Rattle.std.specs.Prelude.{if◌then◌else◌, int_lt, neg_ℤ}
use Rattle.std.specs.List.{AllByRecursion}
use Rattle.std.specs.Str.{bytes_eq}
use Rattle.std.proofs.lemmas.Int.{ints}
use Rattle.rules_data.specs.forms.Spelling.{default_name, implicit_place, is_key_hash, is_place}
use Rattle.rules_data.specs.gas.Prices.{Listed}
use Rattle.rules_code.specs.steps.Changes.{amount_of, identity_of}
use Rattle.rules_code.specs.steps.Failure.{no_entrypoint, ticket_short}
use Rattle.rules_data.specs.values.Tickets.{Held}
use Rattle.rules_world.specs.world.Gives.{as_value, give_account, give_effect, given_to_account, is_short}
use Rattle.rules_world.specs.world.Good.{MayRun}
use Rattle.rules_world.specs.world.Groups.{setting_of}
use Rattle.rules_world.specs.world.Holdings.{credited, debited, held_by}
use Rattle.rules_world.specs.world.Outcomes.{Setting, applied, failed}
use Rattle.rules_world.specs.world.World.{World as PlainWorld, account_at as plain_account_at}
use Rattle.rules_world.specs.world.Balances as rules
use Rattle.laws_world.proofs.accounts.ForCallers.{ticket_positive}
use Rattle.laws_world.proofs.runs.ForCallers.{moved_moves, orderly_of}
use Rattle.mich_base.specs.Counted.{IsNotEmpty}
use Rattle.mich_world.proofs.preconditions_lemmas.ForCallers.{credits_fit, gifts_may_run}
use Rattle.mich_forms.specs.Spelled.{place_bytes}
use Rattle.mich_forms.specs.declared.places.Place.{Place}
use Rattle.mich_forms.specs.declared.places.Place.TheVariants as place
use Rattle.mich_state.specs.declared.state.Counts.{Counts}
use Rattle.mich_machine.specs.Calls.{counts_of, IsHanded}
use Rattle.mich_ops.specs.View.{effect as effect_of}
use Rattle.mich_ops.specs.declared.failure.Failure.TheVariants as failures
use Rattle.mich_world.proofs.simulation_lemmas.ForCallers.{credits_agree, debits_agree, credits_make_accounts}
use Rattle.laws_data.proofs.forms_lemmas.ForCallers.{implicit_is}
use Rattle.mich_term.specs.TicketView.{held, identity}
use Rattle.mich_term.specs.declared.ticket.Ticket.{Ticket}
use Rattle.mich_term.specs.declared.ticket.TicketId.{TicketId}
use Rattle.mich_tickets.specs.Effects.{Moves}
use Rattle.mich_tickets.specs.Limits.{IsPositive}
use Rattle.mich_tickets.specs.Most.{most}
use Rattle.mich_tickets.specs.Sums.{held_of}
use Rattle.mich_world.specs.Holders.{Holders, account_at, moved as moved_in}
use Rattle.mich_world.specs.Standing.{StandsFor}
use Rattle.mich_world.specs.World.{World, with_funds, with_ledger}
use Rattle.mich_world.proofs.ForCallers.{moves_agree}
use Rattle.mich_operations.specs.Gifts.{IsGiven, IsTakenFrom, gift, tickets_of}
use Rattle.mich_operations.specs.Going.{EndsAs, grown, issued_by}
use Rattle.mich_operations.specs.declared.applied.Applied.{Applied}
use Rattle.mich_operations.specs.declared.applied.ApplyError.{ApplyError}
use Rattle.mich_operations.specs.declared.applied.ApplyError.TheVariants.{Failed, Memory}
use Rattle.mich_operations.proofs.Credited.{inserted_here}
use Rattle.mich_operations.proofs.Paying.{ends_failed, or_false}
use Rattle.mich_operations.proofs.Ran.{ends_memory}

lower_than : (a b c : ℤ) → a ≡ b → a <ℤ c → int_lt b c ≡ true
lower_than a b c e h = by (int_lt b c) refl
  where
    by : (t : Bool) → int_lt b c ≡ t → int_lt b c ≡ true
    by true g = g
    by false g = absurd (omega (arith, ints, e, h, g))

as_much_as : (a b c : ℤ) → a ≡ b → c ≤ℤ a → int_lt b c ≡ false
as_much_as a b c e h = by (int_lt b c) refl
  where
    by : (t : Bool) → int_lt b c ≡ t → int_lt b c ≡ false
    by false g = g
    by true g = absurd (omega (arith, ints, e, h, g))

module _ (v : World) (w : PlainWorld) (who : List ℕ) (id : TicketId) (n : ℤ) (to : Place) (given : IsGiven v w who (tickets_of id n) to) where
  abbrev t : Held
  t = tickets_of id n

  pub positive : IsPositive t
  positive = ticket_positive t given.ticket.1

  source_place : is_place (implicit_place who) ≡ true
  source_place = implicit_is who given.key

  held_here : held_of v.ledger.books.present (identity id) (implicit_place who) ≡ held_by w (identity_of t) (implicit_place who)
  held_here = given.stands.those.held (identity id) (implicit_place who) source_place

  module _ (prices : Listed) (group : ℕ) (name : List ℕ) where
    abbrev s : Setting
    s = setting_of prices group who

    pub short_so : held_of v.ledger.books.present (identity id) (implicit_place who) <ℤ n → is_short s w (gift t to name) ≡ true
    short_so h = lower_than _ _ n held_here h

    pub enough_so : n ≤ℤ held_of v.ledger.books.present (identity id) (implicit_place who) → is_short s w (gift t to name) ≡ false
    enough_so h = as_much_as _ _ n held_here h

  -- ---- the tickets are gone from the source

  module _ (enough : n ≤ℤ held_of v.ledger.books.present (identity id) (implicit_place who)) (y : World) (same : y ≡ with_ledger v y.ledger)
      (goes : Moves (implicit_place who) (λ j. neg_ℤ (amount_of j t)) v.ledger.books.present y.ledger.books.present) where
    abbrev pub gone : PlainWorld
    gone = debited w who t

    pub gone_may : MayRun gone (as_value t)
    gone_may = gifts_may_run w given.waiting who t given.good given.key given.ticket (subst (λ (x : ℤ). n ≤ℤ x) held_here enough)

    pub gone_stands : StandsFor y gone
    gone_stands = subst (λ (u : World). StandsFor u gone) (sym same) (debits_agree v w y.ledger who t given.stands given.good.sound.form given.key positive enough goes)

    source_there : is_some (plain_account_at gone who) ≡ true
    source_there = inserted_here w.accounts who _

    -- ---- and come to an account

    module _ (hash : List ℕ) (is : to ≡ place.Implicit hash) where
      receiver : is_place (implicit_place hash) ≡ true
      receiver = subst (λ (p : Place). is_place (place_bytes p) ≡ true) is given.receiver

      key : is_key_hash hash ≡ true
      key = or_false (is_key_hash hash) receiver

      module _ (z : World) (opened : z ≡ with_funds y z.funds) (moves : z.funds.present ≡ moved_in y.funds.present (place.Implicit who) (place.Implicit hash) 0) where
        abbrev settled : PlainWorld
        settled = rules.moved gone (implicit_place who) (implicit_place hash) 0

        settled_stands : StandsFor z settled
        settled_stands = moves_agree y z gone (place.Implicit who) (place.Implicit hash) 0 gone_stands gone_may.sound.form source_place receiver refl refl opened moves

        there : is_some (account_at z.funds.present hash) ≡ true
        there = subst (λ (h : Holders). is_some (account_at h hash) ≡ true) (sym moves) (inserted_here _ hash _)

        pub gift_room : (held_of z.ledger.books.present (identity id) (implicit_place hash) +ℤ n) ≤ℤ most
        gift_room =
            subst (λ (u : World). (held_of u.ledger.books.present (identity id) (implicit_place hash) +ℤ n) ≤ℤ most) (sym opened)
            (credits_fit y gone hash t gone_stands gone_may key)

        module _ (x : World) (credit : x ≡ with_ledger z x.ledger) (comes : Moves (implicit_place hash) (λ j. amount_of j t) z.ledger.books.present x.ledger.books.present) where
          abbrev after : PlainWorld
          after = credited gone hash t

          after_stands : StandsFor x after
          after_stands =
              subst (λ (q : PlainWorld). StandsFor x q) (credits_make_accounts gone who hash t gone_may.sound.form given.key key source_there)
              (subst (λ (u : World). StandsFor u (credited settled hash t)) (sym credit)
              (credits_agree z settled x.ledger hash t settled_stands (moved_moves gone (implicit_place who) (implicit_place hash) 0 (orderly_of gone gone_may.sound)).orderly.form key there positive comes))

          pub gives_account : (prices : Listed) (group : ℕ) (name : List ℕ) (gas : ℕ) (counts : Counts) (a : Applied) → name ≡ default_name
              → effect_of a.effect ≡ give_effect (setting_of prices group who) (gift t (place.Implicit hash) name) [] → a.emitted ≡ [] → a.growth ≡ None
              → EndsAs (give_account (setting_of prices group who) w (gift t (place.Implicit hash) name) gas (counts_of counts)) x gas counts counts (Ok a)
          gives_account prices group name gas counts a named did nothing alone =
              let g = gift t (place.Implicit hash) name in
              let s = setting_of prices group who in
              record {
                world = after;
                stands = after_stands;
                same = ap (λ (m : List ℕ). if bytes_eq m default_name then given_to_account (is_short s w g) s w g gas (counts_of counts) else failed no_entrypoint) named
                    ∙ ap (λ (b : Bool). given_to_account b s w g gas (counts_of counts)) (enough_so prices group name enough)
                    ∙ (λ i. applied (record {
                      world = after;
                      emitted = map (issued_by x.store.bases.present a.by) (sym nothing i);
                      effects = sym did i ∷ grown (sym alone i);
                      gas = gas;
                      counts = counts_of counts;
                    }));
                group = refl;
                handed = subst (AllByRecursion (IsHanded x.store.bases.present)) (sym nothing) tt;
                there = λ h. absurd (subst IsNotEmpty nothing h);
              }

-- ---- too few

pub short_account : (v : World) (w : PlainWorld) (who : List ℕ) (id : TicketId) (n : ℤ) (hash : List ℕ) → IsGiven v w who (tickets_of id n) (place.Implicit hash)
    → held_of v.ledger.books.present (identity id) (implicit_place who) <ℤ n
    → (prices : Listed) (group : ℕ) (name : List ℕ) (gas : ℕ) (counts : Counts) (z : World) → name ≡ default_name
    → EndsAs (give_account (setting_of prices group who) w (gift (tickets_of id n) (place.Implicit hash) name) gas (counts_of counts)) z gas counts counts (Err (Failed failures.TicketShort))
short_account v w who id n hash given low prices group name gas counts z named =
    let s = setting_of prices group who in
    let g = gift (tickets_of id n) (place.Implicit hash) name in
    ends_failed (give_account s w g gas (counts_of counts)) z gas counts counts failures.TicketShort ticket_short
    (ap (λ (m : List ℕ). if bytes_eq m default_name then given_to_account (is_short s w g) s w g gas (counts_of counts) else failed no_entrypoint) named
    ∙ ap (λ (b : Bool). given_to_account b s w g gas (counts_of counts)) (short_so v w who id n (place.Implicit hash) given prices group name low))
    refl

-- none were taken
pub untaken_account : (v : World) (w : PlainWorld) (who : List ℕ) (id : TicketId) (n : ℤ) (hash : List ℕ) → IsGiven v w who (tickets_of id n) (place.Implicit hash)
    → (y : World) (e : ApplyError) → IsTakenFrom who id n v y (Err e)
    → (prices : Listed) (group : ℕ) (name : List ℕ) (gas : ℕ) (counts : Counts) (z : World) → name ≡ default_name
    → EndsAs (give_account (setting_of prices group who) w (gift (tickets_of id n) (place.Implicit hash) name) gas (counts_of counts)) z gas counts counts (Err e)
untaken_account v w who id n hash given y (Failed failures.TicketShort) low prices group name gas counts z named =
    short_account v w who id n hash given low prices group name gas counts z named
untaken_account v w who id n hash given y (Failed _) low prices group name gas counts z named = absurd low
untaken_account v w who id n hash given y Memory low prices group name gas counts z named =
    ends_memory (give_account (setting_of prices group who) w (gift (tickets_of id n) (place.Implicit hash) name) gas (counts_of counts)) z gas counts counts

-- ---- the ticket that was taken

module _ (id : TicketId) (n : ℤ) (ticket : Ticket) (is : ticket ≡ record { id = id; amount = n }) where
  pub taken_positive : IsPositive (tickets_of id n) → IsPositive (held ticket)
  taken_positive h = subst (λ (u : Ticket). IsPositive (held u)) (sym is) h

  pub taken_room : (v : World) (who : List ℕ) → (held_of v.ledger.books.present (identity id) (implicit_place who) +ℤ n) ≤ℤ most
      → (held_of v.ledger.books.present (identity ticket.id) (implicit_place who) +ℤ ticket.amount) ≤ℤ most
  taken_room v who h = subst (λ (u : Ticket). (held_of v.ledger.books.present (identity u.id) (implicit_place who) +ℤ u.amount) ≤ℤ most) (sym is) h

  pub taken_comes : (v w : World) (who : List ℕ) → Moves (implicit_place who) (λ j. amount_of j (held ticket)) v.ledger.books.present w.ledger.books.present
      → Moves (implicit_place who) (λ j. amount_of j (tickets_of id n)) v.ledger.books.present w.ledger.books.present
  taken_comes v w who h = subst (λ (u : Ticket). Moves (implicit_place who) (λ j. amount_of j (held u)) v.ledger.books.present w.ledger.books.present) is h
