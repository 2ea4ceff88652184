-- Mutez that go to a contract, which is called with them (Octez "Operations", transactions).
use Rattle.std.specs.Prelude.{◌≡◌, ◌≤◌, ℕ, nat_le, true, is_some, List, Result, Ok, Err}
use Rattle.std.specs.Borrow.{Bor}
use Rattle.rules_text.specs.nodes.Tree.{Tree}
use Rattle.rules_data.specs.gas.Prices.{Listed}
use Rattle.rules_data.specs.forms.Spelling.{contract_place, is_implicit, is_place}
use Rattle.rules_code.specs.instructions.Arguments.{fault}
use Rattle.rules_code.specs.steps.Changes.{Change}
use Rattle.rules_code.specs.steps.Failure.{no_contract, no_entrypoint}
use Rattle.rules_data.specs.values.Val.{Val}
use Rattle.rules_world.specs.world.Application.{ordered_transaction}
use Rattle.rules_world.specs.world.Arguments.{Argument, literal_in, value}
use Rattle.rules_world.specs.world.Balances.{balance_or_none, moved}
use Rattle.rules_world.specs.world.Contents as contents
use Rattle.rules_world.specs.world.Forms.{IsWorld}
use Rattle.rules_world.specs.world.Groups.{setting_of}
use Rattle.rules_world.specs.world.Outcomes.{Setting, ordered, Counts, Outcome}
use Rattle.rules_world.specs.world.Receipts.{Effect}
use Rattle.rules_world.specs.world.RunLaws.{IsCall}
use Rattle.rules_world.specs.world.Runs.{Call, environment_of, run_in, with_effect}
use Rattle.rules_world.specs.world.Targets.{Target, met, missing, search}
use Rattle.rules_world.specs.world.Transfers.{Transaction, delivered, if_covered, transfer_effect}
use Rattle.rules_world.specs.world.World.{World as PlainWorld}
use Rattle.mich_base.specs.View.{tree}
use Rattle.mich_base.specs.declared.node.Node.{Node}
use Rattle.mich_literals.specs.arguments.Arguments.{IsArgument}
use Rattle.mich_bigmap.specs.Standing.{val_in}
use Rattle.mich_forms.specs.Spelled.{place_bytes}
use Rattle.mich_forms.specs.declared.places.Place.{Place}
use Rattle.mich_forms.specs.declared.places.Place.TheVariants as place
use Rattle.mich_gas.specs.View.{listed}
use Rattle.mich_gas.specs.declared.costs.Costs.{Costs}
use Rattle.mich_state.specs.declared.state.Counts.{Counts as CodeCounts}
use Rattle.mich_machine.specs.Calls.{counts_of}
use Rattle.mich_ops.specs.declared.failure.Failure.TheVariants as failures
use Rattle.mich_step.specs.Views.{environment}
use Rattle.mich_step.specs.declared.environment.Env.{Env}
use Rattle.mich_term.specs.declared.value.Value.{Value}
use Rattle.mich_world.specs.Holders.{contract_at}
use Rattle.mich_world.specs.Standing.{StandsFor}
use Rattle.mich_world.specs.World.{World}
use Rattle.mich_operations.specs.Going.{BeginsIn, EndsAs, setting_in}
use Rattle.mich_operations.specs.Transfers.{transaction}
use Rattle.mich_operations.specs.declared.applied.Applied.{Applied}
use Rattle.mich_operations.specs.declared.applied.ApplyError.{ApplyError}
use Rattle.mich_operations.specs.declared.applied.ApplyError.TheVariants.{Failed, Memory}

-- an entrypoint takes the value that a node spells; or there is no such contract or entrypoint, or the node is no argument of its type
abbrev pub ReadAs : PlainWorld → List ℕ → List ℕ → Tree → Result Value ApplyError → Type 0
ReadAs w hash name t (Ok v) = IsArgument w hash name t v
ReadAs w hash name t (Err (Failed failures.NoContract)) = search w hash name ≡ missing no_contract
ReadAs w hash name t (Err (Failed failures.NoEntrypoint)) = search w hash name ≡ missing no_entrypoint
ReadAs w hash name t (Err (Failed (failures.BadParameter l))) = (target : Target) × (search w hash name ≡ met target) × (literal_in w target.entry.kind t ≡ fault l)
ReadAs w hash name t (Err (Failed why)) = ⊥
ReadAs w hash name t (Err Memory) = Unit {0}

-- a place calls an entrypoint, which has the mutez already
abbrev pub call_of : Place → ℕ → Target → Val → Call
call_of from amount t x = record { target = t; sender = place_bytes from; amount = amount; argument = x }

-- an operation whose effect is a run, before the growth of its contract is charged
abbrev pub before_growth : Setting → PlainWorld → Call → ℕ → Counts → (List Change → Effect) → Outcome
before_growth s w c gas counts effect = with_effect c.target.hash effect (run_in (environment_of s w c) s w c.target c.argument gas counts)

-- a transfer whose argument has this value: where the sender has the mutez they move, and the contract runs
abbrev pub covered : Setting → PlainWorld → Transaction → Target → Val → ℕ → Counts → Outcome
covered s w t target x gas counts = if_covered (nat_le t.amount (balance_or_none w t.sender)) s w t target x gas counts

-- it is called so in a world, with an argument of its type
abbrev pub IsCalled : Setting → PlainWorld → Counts → Place → ℕ → Target → Val → Type 0
IsCalled s w counts from amount t x = IsCall (environment_of s w (call_of from amount t x)) s w t x counts

module _ (v : World) (w : PlainWorld) (s : Setting) (counts : Counts) (from : Place) (to name : List ℕ) (amount : ℕ) (argument : Value) (t : Target) where
  -- The contract of these 20 bytes has the mutez, and its entrypoint of this name is called with an argument of its type.
  pub record IsReady : Type 0 where
    pub stands : StandsFor v w
    pub hash : t.hash ≡ to
    pub named : t.entry.name ≡ name
    pub call : IsCalled s w counts from amount t (val_in v.store.bases.present argument)

  -- It is so where the mutez have moved from a place that has them.
  pub record IsDue : Type 0 where
    pub stands : StandsFor v w
    pub form : IsWorld w
    pub sender : is_place (place_bytes from) ≡ true
    pub there : is_some (contract_at v.funds.present to) ≡ true
    pub hash : t.hash ≡ to
    pub named : t.entry.name ≡ name
    pub call : amount ≤ balance_or_none w (place_bytes from) →
        IsCalled s (moved w (place_bytes from) (contract_place to) amount) counts from amount t (val_in v.store.bases.present argument)

-- ---- the same of a group in the code

abbrev pub IsReadyIn : World → PlainWorld → Listed → CodeCounts → List ℕ → Place → List ℕ → List ℕ → ℕ → Value → Target → Type 0
IsReadyIn v w prices counts source from to name amount argument t =
    IsReady v w (setting_in prices counts source) (counts_of counts) from to name amount argument t

abbrev pub IsDueIn : World → PlainWorld → Listed → CodeCounts → List ℕ → Place → List ℕ → List ℕ → ℕ → Value → Target → Type 0
IsDueIn v w prices counts source from to name amount argument t =
    IsDue v w (setting_in prices counts source) (counts_of counts) from to name amount argument t

-- in some world some entrypoint is ready so, or due so
abbrev pub SomeReady : World → Costs → CodeCounts → List ℕ → Place → List ℕ → List ℕ → ℕ → Value → Type 0
SomeReady v costs counts source from to name amount argument =
    (w : PlainWorld) × (t : Target) × IsReadyIn v w (listed costs) counts source from to name amount argument t

abbrev pub SomeDue : World → Costs → CodeCounts → List ℕ → Place → List ℕ → List ℕ → ℕ → Value → Type 0
SomeDue v costs counts source from to name amount argument =
    (w : PlainWorld) × (t : Target) × IsDueIn v w (listed costs) counts source from to name amount argument t

-- this surrounds a contract that a place calls, in each group of a source
abbrev pub IsAround : World → List ℕ → Place → List ℕ → ℕ → Env → Type 0
IsAround v source from to amount env =
    (w : PlainWorld) (prices : Listed) (group : ℕ) (t : Target) (x : Val) → StandsFor v w → t.hash ≡ to
    → environment env ≡ environment_of (setting_of prices group source) w (call_of from amount t x)

-- ---- how they end

-- a contract that is ready runs as the definitions say, and so its run is told, before its growth is charged
abbrev pub Runs : Listed → List ℕ → Place → List ℕ → List ℕ → ℕ → Value → (List Change → Effect)
    → World → ℕ → CodeCounts → World → ℕ → CodeCounts → Result Applied ApplyError → Type 0
Runs prices source from to name amount argument effect v gas counts new left after r =
    (w : PlainWorld) (t : Target) → IsReadyIn v w prices counts source from to name amount argument t
    → EndsAs
    (before_growth (setting_in prices counts source) w (call_of from amount t (val_in v.store.bases.present argument)) gas (counts_of counts) effect)
    new left counts after r

-- as a transfer
abbrev pub RunsContract : Bor Costs → Bor (List ℕ) → Bor Place → Bor (List ℕ) → Bor (List ℕ) → ℕ → Value
    → World → ℕ → CodeCounts → World → ℕ → CodeCounts → Result Applied ApplyError → Type 0
RunsContract costs source from to name amount argument v gas counts new left after r =
    Runs (listed costs.now) source.now from.now to.now name.now amount argument
    (transfer_effect (transaction from.now (place.Contract to.now) name.now amount (value (val_in v.store.bases.present argument)))
    (val_in v.store.bases.present argument))
    v gas counts new left after r

-- a contract is called as is due, where the place has the mutez
abbrev pub CallsContract : Bor Costs → Bor (List ℕ) → Bor Place → Bor (List ℕ) → Bor (List ℕ) → ℕ → Value
    → World → ℕ → CodeCounts → World → ℕ → CodeCounts → Result Applied ApplyError → Type 0
CallsContract costs source from to name amount argument v gas counts new left after r =
    (w : PlainWorld) (t : Target) (a : Argument) → IsDueIn v w (listed costs.now) counts source.now from.now to.now name.now amount argument t
    → EndsAs
    (covered (setting_in (listed costs.now) counts source.now) w (transaction from.now (place.Contract to.now) name.now amount a) t
    (val_in v.store.bases.present argument) gas (counts_of counts))
    new left counts after r

-- where a group comes to a call, and its price is paid, it ends as the definitions say
abbrev pub CallsPlace : Bor Costs → Bor (List ℕ) → ℕ → Bor Place → Bor (List ℕ) → Bor Node
    → World → ℕ → CodeCounts → World → ℕ → CodeCounts → Result Applied ApplyError → Type 0
CallsPlace costs source amount to entry argument v gas counts new left after r =
    (w : PlainWorld)
    → BeginsIn v w (listed costs.now) counts source.now (ordered (contents.Call amount (place_bytes to.now) entry.now (tree argument.now)))
    → EndsAs
    (delivered (is_implicit (place_bytes to.now)) (setting_in (listed costs.now) counts source.now) w
    (ordered_transaction (setting_in (listed costs.now) counts source.now) amount (place_bytes to.now) entry.now (tree argument.now))
    gas (counts_of counts))
    new left counts after r
