-- The course of the rules that one of the code follows, and how its steps end.
use Rattle.std.specs.Prelude.{◌≡◌, ◌<◌, ◌^◌, ℕ, true, List, [], ◌∷◌, map, Option, Some, None, Result, Ok, Err}
use Rattle.laws_code.specs.evaluation.Laws.{IsCharged}
use Rattle.laws_world.specs.runs.Worlds.{IsWhole}
use Rattle.rules_files.specs.course.Course.{Course as PlainCourse, Step, goes_on, stops, BadOrder, BadCosts, RepeatedAccount, SupplyLimit}
use Rattle.rules_world.specs.world.Good.{IsNewGroup}
use Rattle.mich_gas.specs.View.{listed}
use Rattle.mich_machine.specs.Calls.{IsHosting}
use Rattle.mich_ops.specs.Told.{ToldReceipt, told_receipt}
use Rattle.mich_ops.specs.View.{receipt}
use Rattle.mich_ops.specs.declared.receipt.GroupReceipt.{GroupReceipt}
use Rattle.mich_world.specs.Standing.{StandsFor}
use Rattle.mich_group.specs.declared.course.course.Course.{Course}
use Rattle.mich_group.specs.declared.course.error.CourseError.{CourseError}
use Rattle.mich_group.specs.declared.course.error.CourseError.TheVariants as error

-- Its world stands for the other's, with the same prices and as many groups; all mutez of it are those that were granted, everything
-- costs some gas, and no group that is to come made a contract.
pub record Follows (c : Course) (p : PlainCourse) : Type 0 where
  pub stands : StandsFor c.world p.world
  pub prices : listed c.costs ≡ p.prices
  pub groups : c.groups ≡ p.groups
  pub at_head : c.at_head ≡ p.at_head
  pub nobody : c.at_head ≡ true → (c.world.funds.present.accounts ≡ []) × (c.world.funds.present.contracts ≡ [])
  pub hosting : IsHosting c.world
  pub whole : IsWhole p.world
  pub charged : IsCharged p.prices
  pub new : (number : ℕ) → p.groups < number → number < 2 ^ 64 → IsNewGroup number p.world

-- the receipt of a group, or none
abbrev pub told : Option GroupReceipt → List ToldReceipt
told None = []
told (Some r) = receipt r ∷ []

-- A statement takes the course on, and tells this; or it is refused so. After want of memory nothing is said.
abbrev pub Goes : Step → Course → Result (Option GroupReceipt) CourseError → Type 0
Goes (goes_on p receipts) c (Ok r) = Follows c p × (told r ≡ map told_receipt receipts)
Goes (stops BadOrder) c (Err error.BadOrder) = Unit {0}
Goes (stops BadCosts) c (Err error.BadCosts) = Unit {0}
Goes (stops RepeatedAccount) c (Err error.RepeatedAccount) = Unit {0}
Goes (stops SupplyLimit) c (Err error.SupplyLimit) = Unit {0}
Goes step c (Err error.Memory) = Unit {0}
Goes step c r = ⊥

-- a statement that is refused leaves the course as it was; after want of memory nothing is said
abbrev pub StaysRefused : Course → Course → Result (Option GroupReceipt) CourseError → Type 0
StaysRefused old new (Ok r) = Unit {0}
StaysRefused old new (Err error.Memory) = Unit {0}
StaysRefused old new (Err why) = new ≡ old

-- the first statement begins a course, or is refused
abbrev pub Begins : Step → Result Course CourseError → Type 0
Begins (goes_on p receipts) (Ok c) = Follows c p × (receipts ≡ [])
Begins (stops BadOrder) (Err error.BadOrder) = Unit {0}
Begins step (Err error.Memory) = Unit {0}
Begins step r = ⊥
