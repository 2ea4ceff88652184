-- Transfers between places (Octez "Operations", transactions).
use Rattle.std.specs.Prelude.{◌≡◌, ◌-◌, ℕ, nat_lt, true, false, List, Some, Result, Ok, Err}
use Rattle.std.specs.Borrow.{Bor}
use Rattle.rules_text.specs.nodes.Tree.{Tree}
use Rattle.rules_data.specs.declared.gas.Kind.{Kind}
use Rattle.rules_data.specs.gas.Prices.{Listed, cost}
use Rattle.rules_data.specs.types.Kind.{Kind as TypeKind}
use Rattle.rules_data.specs.forms.Spelling.{contract_place, is_implicit, is_place, place_of}
use Rattle.rules_code.specs.evaluation.Operations.{transfer}
use Rattle.rules_data.specs.values.Val.{Val}
use Rattle.rules_world.specs.world.Application.{issued_transaction}
use Rattle.rules_world.specs.world.Arguments.{Argument, node}
use Rattle.rules_world.specs.world.Arguments as rules
use Rattle.rules_world.specs.world.Forms.{IsWorld}
use Rattle.rules_world.specs.world.Good.{FitsIn, MayRun}
use Rattle.rules_world.specs.world.Outcomes.{Waiting, issued}
use Rattle.rules_world.specs.world.Transfers.{Transaction, delivered, to_account, with_taken}
use Rattle.rules_world.specs.world.World.{World as PlainWorld}
use Rattle.mich_bigmap.specs.Standing.{val_in}
use Rattle.mich_forms.specs.Spelled.{address_bytes, place_bytes}
use Rattle.mich_forms.specs.declared.addresses.Address.{Address}
use Rattle.mich_forms.specs.declared.places.Place.{Place}
use Rattle.mich_forms.specs.declared.places.Place.TheVariants as place
use Rattle.mich_gas.specs.View.{listed}
use Rattle.mich_gas.specs.declared.costs.Costs.{Costs}
use Rattle.mich_state.specs.declared.state.Counts.{Counts}
use Rattle.mich_machine.specs.Calls.{counts_of}
use Rattle.mich_ops.specs.declared.failure.Failure.TheVariants.{OutOfGas}
use Rattle.mich_term.specs.declared.value.Value.{Value}
use Rattle.mich_world.specs.Standing.{StandsFor}
use Rattle.mich_world.specs.World.{World}
use Rattle.mich_operations.specs.Going.{BeginsIn, EndsAs, setting_in}
use Rattle.mich_operations.specs.declared.applied.Applied.{Applied}
use Rattle.mich_operations.specs.declared.applied.ApplyError.{ApplyError}
use Rattle.mich_operations.specs.declared.applied.ApplyError.TheVariants.{Failed, Memory}

-- the price of a kind of operation was taken, or is over the gas
abbrev pub IsCharged : {U : Type 0} → Listed → Kind → ℕ → ℕ → Result U ApplyError → Type 0
IsCharged prices kind old new (Ok _) = (nat_lt old (cost prices kind 0) ≡ false) × (new ≡ old - cost prices kind 0)
IsCharged prices kind old new (Err (Failed OutOfGas)) = (nat_lt old (cost prices kind 0) ≡ true) × (new ≡ old)
IsCharged prices kind old new (Err (Failed why)) = ⊥
IsCharged prices kind old new (Err Memory) = ⊥

-- so much mutez from a place to another, whose entrypoint is called
abbrev pub transaction : Place → Place → List ℕ → ℕ → Argument → Transaction
transaction from to entry amount argument = record {
  sender = place_bytes from;
  destination = place_bytes to;
  entrypoint = entry;
  amount = amount;
  argument = argument;
}

-- a world stands for one of the form of worlds, and there are such places
pub record AreBetween (v : World) (w : PlainWorld) (from to : Place) : Type 0 where
  pub stands : StandsFor v w
  pub form : IsWorld w
  pub sender : is_place (place_bytes from) ≡ true
  pub receiver : is_place (place_bytes to) ≡ true

-- and a value goes with them to an account, which has a type and for which there is room
pub record IsSent (v : World) (w : PlainWorld) (from : Place) (to : List ℕ) (x : Val) : Type 0 where
  pub between : AreBetween v w from (place.Implicit to)
  pub kind : TypeKind
  pub fits : FitsIn w kind x
  pub may : MayRun w x

-- ---- to accounts

-- mutez go from a place to an account, and a value that it takes
abbrev pub PaysAccount : World → Place → List ℕ → List ℕ → ℕ → Val → World → Result Applied ApplyError → Type 0
PaysAccount v from to entry amount x new r =
    (w : PlainWorld) (argument : Argument) (gas : ℕ) (counts : Counts) → AreBetween v w from (place.Implicit to)
    → EndsAs (with_taken (Some x) w (transaction from (place.Implicit to) entry amount argument) gas (counts_of counts)) new gas counts counts r

-- an account calls another with an argument that is a node
abbrev pub CallsAccount : World → List ℕ → List ℕ → List ℕ → ℕ → Tree → World → Result Applied ApplyError → Type 0
CallsAccount v source to entry amount t new r =
    (w : PlainWorld) (gas : ℕ) (counts : Counts) → AreBetween v w (place.Implicit source) (place.Implicit to)
    → EndsAs (to_account w (transaction (place.Implicit source) (place.Implicit to) entry amount (node t)) gas (counts_of counts))
    new gas counts counts r

-- mutez go to an account with a value that may go there
abbrev pub SendsWith : World → Place → List ℕ → List ℕ → ℕ → Val → World → Result Applied ApplyError → Type 0
SendsWith v from to entry amount x new r =
    (w : PlainWorld) (argument : Argument) (gas : ℕ) (counts : Counts) → IsSent v w from to x
    → EndsAs (with_taken (Some x) w (transaction from (place.Implicit to) entry amount argument) gas (counts_of counts)) new gas counts counts r

-- so, to an entrypoint that the account need not have
abbrev pub SendsAccount : World → Place → List ℕ → List ℕ → ℕ → Val → World → Result Applied ApplyError → Type 0
SendsAccount v from to entry amount x new r =
    (w : PlainWorld) (gas : ℕ) (counts : Counts) → IsSent v w from to x
    → EndsAs (to_account w (transaction from (place.Implicit to) entry amount (rules.value x)) gas (counts_of counts)) new gas counts counts r

-- ---- from contracts

-- a contract issued a transfer of a value and mutez to an address
abbrev pub issued_transfer : World → List ℕ → Value → ℕ → Address → Waiting
issued_transfer v by argument amount to =
    issued (contract_place by) (transfer (val_in v.store.bases.present argument) amount (address_bytes to))

-- where a group comes to it, and its price is paid, it ends as the definitions say
abbrev pub Sends : Bor Costs → Bor (List ℕ) → List ℕ → Bor Address → ℕ → Value → World → ℕ → Counts → World → ℕ → Counts → Result Applied ApplyError → Type 0
Sends costs source by to amount argument v gas counts new left after r =
    (w : PlainWorld) → BeginsIn v w (listed costs.now) counts source.now (issued_transfer v by argument amount to.now)
    → EndsAs
    (delivered (is_implicit (place_of (address_bytes to.now))) (setting_in (listed costs.now) counts source.now) w
    (issued_transaction (contract_place by) (val_in v.store.bases.present argument) amount (address_bytes to.now)) gas (counts_of counts))
    new left counts after r
