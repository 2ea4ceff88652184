-- Gifts of tickets (this host's own operation, after Octez "Tickets", transfers of tickets).
use Rattle.std.specs.Prelude.{◌≡◌, ℕ, ℤ, neg_ℤ, ◌≤ℤ◌, ◌<ℤ◌, true, false, List, Option, Some, None, Result, Ok, Err, if◌then◌else◌}
use Rattle.std.specs.Borrow.{Bor}
use Rattle.rules_data.specs.gas.Prices.{Listed}
use Rattle.rules_data.specs.forms.Spelling.{implicit_place, is_key_hash, is_place}
use Rattle.rules_code.specs.instructions.Same.{same_kind}
use Rattle.rules_code.specs.steps.Changes.{Change, amount_of}
use Rattle.rules_code.specs.steps.Failure.{no_contract, no_entrypoint}
use Rattle.rules_data.specs.types.Attributes.{comparable}
use Rattle.rules_data.specs.types.Kind.{Kind}
use Rattle.rules_data.specs.types.Kind as k
use Rattle.rules_data.specs.types.Reading.{Reading, a_type, bad_type, too_large}
use Rattle.rules_data.specs.values.Literals.{Literal, good, bad}
use Rattle.rules_data.specs.values.Tickets.{Held}
use Rattle.rules_data.specs.values.Val.{Val}
use Rattle.rules_world.specs.world.Contents.{Give}
use Rattle.rules_world.specs.world.Forms.{IsTicket}
use Rattle.rules_world.specs.world.Gives.{Offer, Gift, as_value, give_effect, is_short, offered, with_offered}
use Rattle.rules_world.specs.world.Gives as rules
use Rattle.rules_world.specs.world.Good.{IsGood}
use Rattle.rules_world.specs.world.Holdings.{debited}
use Rattle.rules_world.specs.world.Groups.{setting_of}
use Rattle.rules_world.specs.world.Outcomes.{Setting, Waiting, ordered, Counts}
use Rattle.rules_world.specs.world.RunLaws.{IsCall}
use Rattle.rules_world.specs.world.Runs.{environment_of}
use Rattle.rules_world.specs.world.Targets.{Target, Search, met, missing, search}
use Rattle.rules_world.specs.world.World.{World as PlainWorld}
use Rattle.mich_base.specs.View.{tree}
use Rattle.mich_base.specs.declared.node.Node.{Node}
use Rattle.mich_forms.specs.Spelled.{place_bytes}
use Rattle.mich_forms.specs.declared.places.Place.{Place}
use Rattle.mich_forms.specs.declared.places.Place.TheVariants as place
use Rattle.mich_gas.specs.View.{listed}
use Rattle.mich_gas.specs.declared.costs.Costs.{Costs}
use Rattle.mich_state.specs.declared.state.Counts.{Counts as CodeCounts}
use Rattle.mich_machine.specs.Calls.{counts_of}
use Rattle.mich_ops.specs.View.{effect}
use Rattle.mich_ops.specs.declared.receipt.Effect.{Effect}
use Rattle.mich_ops.specs.declared.failure.Failure.TheVariants as failures
use Rattle.mich_term.specs.TicketView.{held, identity}
use Rattle.mich_term.specs.declared.ticket.Ticket.{Ticket}
use Rattle.mich_term.specs.declared.ticket.TicketId.{TicketId}
use Rattle.mich_term.specs.declared.value.Value.{Value}
use Rattle.mich_tickets.specs.Effects.{Moves}
use Rattle.mich_tickets.specs.Sums.{held_of}
use Rattle.mich_world.specs.Standing.{StandsFor}
use Rattle.mich_world.specs.World.{World}
use Rattle.mich_operations.specs.Calls.{Runs, call_of}
use Rattle.mich_operations.specs.Going.{BeginsIn, EndsAs, setting_in}
use Rattle.mich_operations.specs.declared.applied.Applied.{Applied}
use Rattle.mich_operations.specs.declared.applied.ApplyError.{ApplyError}
use Rattle.mich_operations.specs.declared.applied.ApplyError.TheVariants.{Failed, Memory}

-- ---- the ticket

-- the comparable type that was read, if it is one
abbrev pub compared : Reading → Option Kind
compared (a_type a) = if comparable a then Some a else None
compared (bad_type location) = None
compared too_large = None

-- the value that was read, if it is a literal
abbrev pub content_in : Literal Val → Option Val
content_in (good v pending) = Some v
content_in (bad location) = None

-- so many tickets of an identity
abbrev pub tickets_of : TicketId → ℤ → Held
tickets_of id n = held (record { id = id; amount = n })

-- what is offered of a place's tickets, whose type and content these nodes spell
abbrev pub offer : Place → Node → Node → ℤ → Offer
offer issuer ty content amount =
    record { issuer = place_bytes issuer; kind = tree ty; content = tree content; amount = amount }

abbrev pub gift : Held → Place → List ℕ → Gift
gift t to name = record { ticket = t; destination = place_bytes to; entrypoint = name }

-- ---- where it goes

-- an entrypoint that is there takes tickets of a type; or there is none, or it takes something else
abbrev pub IsWanted : {U : Type 0} → Search → Kind → Result U ApplyError → Type 0
IsWanted q a (Ok _) = (t : Target) × (q ≡ met t) × (same_kind t.entry.kind (k.ticket a) ≡ true)
IsWanted q a (Err (Failed failures.NoContract)) = q ≡ missing no_contract
IsWanted q a (Err (Failed failures.NoEntrypoint)) = q ≡ missing no_entrypoint
IsWanted q a (Err (Failed (failures.BadParameter l))) = (t : Target) × (q ≡ met t) × (same_kind t.entry.kind (k.ticket a) ≡ false) × (l ≡ 0)
IsWanted q a (Err (Failed why)) = ⊥
IsWanted q a (Err Memory) = ⊥

-- ---- who gives it

-- so many tickets went from an account; or it holds fewer
abbrev pub IsTakenFrom : List ℕ → TicketId → ℤ → World → World → Result Ticket ApplyError → Type 0
IsTakenFrom who id n old new (Ok t) =
    (n ≤ℤ held_of old.ledger.books.present (identity id) (implicit_place who)) × (t ≡ record { id = id; amount = n })
    × Moves (implicit_place who) (λ j. neg_ℤ (amount_of j (tickets_of id n))) old.ledger.books.present new.ledger.books.present
IsTakenFrom who id n old new (Err (Failed failures.TicketShort)) = held_of old.ledger.books.present (identity id) (implicit_place who) <ℤ n
IsTakenFrom who id n old new (Err (Failed why)) = ⊥
IsTakenFrom who id n old new (Err Memory) = Unit {0}

-- a world stands for a good one, in which an account may give a ticket to a place
pub record IsGiven (v : World) (w : PlainWorld) (who : List ℕ) (t : Held) (to : Place) : Type 0 where
  pub stands : StandsFor v w
  pub waiting : List Waiting
  pub good : IsGood w waiting
  pub key : is_key_hash who ≡ true
  pub ticket : IsTicket t
  pub receiver : is_place (place_bytes to) ≡ true

-- and a contract is called with it, where its entrypoint takes such tickets and the account holds enough
pub record IsHandedOver (v : World) (w : PlainWorld) (s : Setting) (counts : Counts) (t : Held) (to name : List ℕ) : Type 0 where
  pub given : IsGiven v w s.source t (place.Contract to)
  pub call : (target : Target) → search w to name ≡ met target → same_kind target.entry.kind (k.ticket t.kind) ≡ true
      → is_short s w (gift t (place.Contract to) name) ≡ false
      → IsCall (environment_of s (debited w s.source t) (call_of (place.Implicit s.source) 0 target (as_value t))) s (debited w s.source t) target (as_value t) counts

-- so of a group in the code
abbrev pub IsHandedIn : World → PlainWorld → Listed → CodeCounts → List ℕ → Held → List ℕ → List ℕ → Type 0
IsHandedIn v w prices counts source t to name = IsHandedOver v w (setting_in prices counts source) (counts_of counts) t to name

-- ---- how it ends

-- a gift of a source is told so, with the changes of the run that it began
abbrev pub TellsGift : List ℕ → Gift → List Change → Effect → Type 0
TellsGift source g changes e = (prices : Listed) (group : ℕ) → effect e ≡ give_effect (setting_of prices group source) g changes

-- tickets go from a source to an account
abbrev pub GivesAccount : World → List ℕ → Held → List ℕ → List ℕ → World → Result Applied ApplyError → Type 0
GivesAccount v source t to entry new r =
    (w : PlainWorld) (prices : Listed) (group gas : ℕ) (counts : CodeCounts) → IsGiven v w source t (place.Implicit to)
    → EndsAs (rules.give_account (setting_of prices group source) w (gift t (place.Implicit to) entry) gas (counts_of counts)) new gas counts counts r

-- a contract runs with tickets that it was given
abbrev pub RunsGift : Bor Costs → Bor (List ℕ) → Bor TicketId → ℤ → Bor (List ℕ) → Bor (List ℕ) → Value
    → World → ℕ → CodeCounts → World → ℕ → CodeCounts → Result Applied ApplyError → Type 0
RunsGift costs source id amount to name argument v gas counts new left after r =
    Runs (listed costs.now) source.now (place.Implicit source.now) to.now name.now 0 argument
    (give_effect (setting_in (listed costs.now) counts source.now) (gift (tickets_of id.now amount) (place.Contract to.now) name.now))
    v gas counts new left after r

-- tickets go from a source to a contract
abbrev pub GivesContract : Bor Costs → Bor (List ℕ) → Bor TicketId → ℤ → Bor (List ℕ) → Bor (List ℕ)
    → World → ℕ → CodeCounts → World → ℕ → CodeCounts → Result Applied ApplyError → Type 0
GivesContract costs source id amount to name v gas counts new left after r =
    (w : PlainWorld) → IsHandedIn v w (listed costs.now) counts source.now (tickets_of id.now amount) to.now name.now
    → EndsAs
    (rules.give_contract (setting_in (listed costs.now) counts source.now) w (gift (tickets_of id.now amount) (place.Contract to.now) name.now)
    gas (counts_of counts))
    new left counts after r

-- a source orders a gift
abbrev pub ordered_gift : Place → Node → Node → ℤ → Place → List ℕ → Waiting
ordered_gift issuer ty content amount to name = ordered (Give (place_bytes issuer) (tree ty) (tree content) amount (place_bytes to) name)

-- where a group comes to it, and its price is paid, it ends as the definitions say
abbrev pub Gives : Bor Costs → Bor (List ℕ) → Bor Place → Bor Node → Bor Node → ℤ → Bor Place → Bor (List ℕ)
    → World → ℕ → CodeCounts → World → ℕ → CodeCounts → Result Applied ApplyError → Type 0
Gives costs source issuer ty content amount to name v gas counts new left after r =
    (w : PlainWorld) → BeginsIn v w (listed costs.now) counts source.now (ordered_gift issuer.now ty.now content.now amount to.now name.now)
    → EndsAs
    (with_offered (offered (offer issuer.now ty.now content.now amount)) (setting_in (listed costs.now) counts source.now) w
    (place_bytes to.now) name.now gas (counts_of counts))
    new left counts after r

-- an account holds more, by as many as a ticket tells, and nobody else does
abbrev pub Receives : List ℕ → Ticket → World → World → Type 0
Receives who t v new = Moves (implicit_place who) (λ j. amount_of j (held t)) v.ledger.books.present new.ledger.books.present
