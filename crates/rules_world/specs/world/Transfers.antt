-- How transfers are applied (Octez "Operations", transactions; Michelson reference, "Entrypoints"). The tests of each rule are
-- tried in their order. That accounts hold tickets is this host's own choice.
use Rattle.std.specs.Prelude.{ℕ, ◌==◌, ◌&&◌, nat_lt, is_none, Bool, true, false, nat_le, List, [], ◌∷◌, Option, Some, None, if◌then◌else◌}
use Rattle.std.specs.Str.{bytes_eq}
use Rattle.rules_data.specs.forms.Spelling.{default_name, spelled_address, is_implicit}
use Rattle.rules_data.specs.declared.gas.Kind.TheVariants as price
use Rattle.rules_data.specs.declared.types.Simple.TheVariants as s
use Rattle.rules_data.specs.values.Val.{Val, ticket}
use Rattle.rules_data.specs.values.Tickets.{Held}
use Rattle.rules_data.specs.values.Literals.{simple_value}
use Rattle.rules_data.specs.values.Canonical.{canonical}
use Rattle.rules_code.specs.instructions.Arguments.{Found, found, fault}
use Rattle.rules_code.specs.steps.Changes.{Change}
use Rattle.rules_code.specs.steps.Failure.{Failure, no_entrypoint, bad_parameter, empty_transaction, balance_too_low}
use Rattle.rules_world.specs.world.Receipts.{Effect, Transfer}
use Rattle.rules_world.specs.world.World.{World, key_hash_in}
use Rattle.rules_code.specs.evaluation.Contracts.{hash_in}
use Rattle.rules_world.specs.world.Balances.{balance_or_none, moved}
use Rattle.rules_world.specs.world.Holdings.{credited}
use Rattle.rules_world.specs.world.Outcomes.{Setting, Counts, Outcome, applied, failed, charged}
use Rattle.rules_world.specs.world.Targets.{Target, search, on_met}
use Rattle.rules_world.specs.world.Arguments.{Argument, node, value, argument_in}
use Rattle.rules_world.specs.world.Runs.{run}

-- mutez from one place to another, whose entrypoint is called with an argument
pub record Transaction : Type 0 where
  pub sender : List ℕ
  pub destination : List ℕ
  pub entrypoint : List ℕ
  pub amount : ℕ
  pub argument : Argument

abbrev pub transfer_effect : Transaction → Val → List Change → Effect
transfer_effect t v changes = Transfer t.sender (spelled_address t.destination t.entrypoint) t.amount (canonical v) changes

-- ---- to an account

-- what an account takes: `Unit` of a content, anything of a contract
abbrev pub taken_by_account : Argument → Option Val
taken_by_account (node t) = simple_value s.Unit t
taken_by_account (value v) = Some v

-- the ticket that a value is, if it is one
abbrev pub as_ticket : Val → Option Held
as_ticket (ticket issuer kind content amount) = Some (record { issuer = issuer; kind = kind; content = content; amount = amount })
as_ticket v = None

-- why a transfer of this value to an account fails
abbrev pub account_failure : World → Transaction → Val → Option Failure
account_failure w t v =
    if t.amount == 0 && is_none (as_ticket v) then Some empty_transaction
    else if nat_lt (balance_or_none w t.sender) t.amount then Some balance_too_low
    else None

abbrev pub with_ticket : World → List ℕ → Option Held → World
with_ticket w who (Some t) = credited w who t
with_ticket w who None = w

-- the mutez move, and a ticket is credited; the account is made where it isn't there
abbrev pub received : World → Transaction → Val → World
received w t v = with_ticket (moved w t.sender t.destination t.amount) (key_hash_in t.destination) (as_ticket v)

abbrev pub account_outcome : Option Failure → World → Transaction → Val → ℕ → Counts → Outcome
account_outcome (Some failure) w t v gas counts = failed failure
account_outcome None w t v gas counts =
    applied (record { world = received w t v; emitted = []; effects = transfer_effect t v [] ∷ []; gas = gas; counts = counts })

abbrev pub with_taken : Option Val → World → Transaction → ℕ → Counts → Outcome
with_taken (Some v) w t gas counts = account_outcome (account_failure w t v) w t v gas counts
with_taken None w t gas counts = failed (bad_parameter 0)

-- an account has the entrypoint `default` alone
abbrev pub to_account : World → Transaction → ℕ → Counts → Outcome
to_account w t gas counts =
    if bytes_eq t.entrypoint default_name then with_taken (taken_by_account t.argument) w t gas counts else failed no_entrypoint

-- ---- to a contract

-- the mutez move, and the contract runs
abbrev pub called : Setting → World → Transaction → Target → Val → ℕ → Counts → Outcome
called s w t target v gas counts =
    run s
    (moved w t.sender t.destination t.amount)
    (record { target = target; sender = t.sender; amount = t.amount; argument = v })
    gas counts
    (transfer_effect t v)

abbrev pub if_covered : Bool → Setting → World → Transaction → Target → Val → ℕ → Counts → Outcome
if_covered true s w t target v gas counts = called s w t target v gas counts
if_covered false s w t target v gas counts = failed balance_too_low

abbrev pub with_argument : Found Val → Setting → World → Transaction → Target → ℕ → Counts → Outcome
with_argument (found v) s w t target gas counts = if_covered (nat_le t.amount (balance_or_none w t.sender)) s w t target v gas counts
with_argument (fault location) s w t target gas counts = failed (bad_parameter location)

abbrev pub to_contract : Setting → World → Transaction → ℕ → Counts → Outcome
to_contract s w t gas counts = on_met (search w (hash_in t.destination) t.entrypoint) (λ target.
    with_argument (argument_in w target.entry.kind t.argument) s w t target gas counts)

-- ---- all transfers

abbrev pub delivered : Bool → Setting → World → Transaction → ℕ → Counts → Outcome
delivered true s w t gas counts = to_account w t gas counts
delivered false s w t gas counts = to_contract s w t gas counts

abbrev pub transferred : Setting → World → Transaction → ℕ → Counts → Outcome
transferred s w t gas counts = charged s.prices price.Transfer gas (λ left. delivered (is_implicit t.destination) s w t left counts)
