-- How the application of an operation ends (Octez "Operations", internal operations).
use Rattle.std.specs.Prelude.{ℕ, ◌-◌, nat_lt, Bool, true, false, List}
use Rattle.rules_data.specs.declared.gas.Kind.{Kind}
use Rattle.rules_data.specs.gas.Prices.{Listed, cost}
use Rattle.rules_code.specs.steps.Failure.{Failure, out_of_gas}
use Rattle.rules_code.specs.evaluation.Operations.{Operation}
use Rattle.rules_world.specs.world.Contents.{Action}
use Rattle.rules_world.specs.world.Receipts.{Effect}
use Rattle.rules_world.specs.world.World.{World}

-- what all operations of a group share: the prices, the group's number, and the key hash of its source
pub record Setting : Type 0 where
  pub prices : Listed
  pub group : ℕ
  pub source : List ℕ

-- an operation that waits: one that the source orders, or one that the contract at a place issued
pub data Waiting : Type 0 where
  ordered : Action → Waiting
  issued : (sender : List ℕ) → Operation → Waiting

-- how many operations, and how many originations, a group had so far
pub record Counts : Type 0 where
  pub operations : ℕ
  pub originations : ℕ

-- before the first content of a group
abbrev pub no_counts : Counts
no_counts = record { operations = 0; originations = 0 }

-- an operation that was applied: the world after it, what it emitted and what it did, each in order, and the gas and the counts
-- that are left for the next
pub record Success : Type 0 where
  pub world : World
  pub emitted : List Waiting
  pub effects : List Effect
  pub gas : ℕ
  pub counts : Counts

-- Applied, failed, or stuck. No operation is stuck in a good world.
pub data Outcome : Type 0 where
  applied : Success → Outcome
  failed : Failure → Outcome
  stuck : Outcome

-- goes on where there was gas enough
abbrev pub charged_by : Bool → ℕ → (ℕ → Outcome) → Outcome
charged_by true left next = failed out_of_gas
charged_by false left next = next left

-- the price of a kind of operation is taken first; then what follows has the gas that is left
abbrev pub charged : Listed → Kind → ℕ → (ℕ → Outcome) → Outcome
charged prices kind gas next = charged_by (nat_lt gas (cost prices kind 0)) (gas - cost prices kind 0) next
