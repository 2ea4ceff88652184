-- Laws of the course of a file (this host's own).
use Rattle.std.specs.Prelude.{◌≡◌, ◌+◌, ◌<◌, ◌≤◌, ◌^◌, ℕ, true, [], length, Option, None, Some}
use Rattle.std.specs.List.{All}
use Rattle.std.specs.Map.{values_of}
use Rattle.rules_text.specs.nodes.Tree.{Tree, size}
use Rattle.rules_code.specs.evaluation.Surroundings.{Contract}
use Rattle.rules_files.specs.course.Course.{Course, Step, goes_on, stops, stuck_step, first_step, step_behind}
use Rattle.rules_files.specs.course.Ranges.{IsStatement}
use Rattle.rules_files.specs.statements.Statements.{Statement, Chain, Profile, Costs, Account, Block, Group, form}
use Rattle.rules_world.specs.world.Good.{IsNewGroup}
use Rattle.rules_world.specs.world.Growth.{size_of}
use Rattle.rules_world.specs.world.World.{World}
use Rattle.laws_code.specs.evaluation.Laws.{IsCharged}
use Rattle.laws_world.specs.runs.Worlds.{IsWhole}

-- the fields of a statement are within their ranges
abbrev pub StatementsHaveRanges : Type 0
StatementsHaveRanges = (t : Tree) (s : Statement) → form t ≡ Some s → size t < 2 ^ 32 → IsStatement s

-- its world is good, and all mutez of it are those that were granted; everything costs some gas; and no group that is to come made a
-- contract
pub record IsGoodCourse (c : Course) : Type 0 where
  pub whole : IsWhole c.world
  pub charged : IsCharged c.prices
  pub new : (number : ℕ) → c.groups < number → number < 2 ^ 64 → IsNewGroup number c.world

-- the mutez that a statement grants
abbrev pub granted_by : Statement → ℕ
granted_by (Account who mutez) = mutez
granted_by (Chain id level moment) = 0
granted_by (Profile rate) = 0
granted_by (Costs table) = 0
granted_by (Block level moment) = 0
granted_by (Group source contents) = 0

-- Behind so many groups and so much granted mutez: the course is good, its receipts, at most one, are counted, and this was granted;
-- or the statement is refused.
abbrev pub StaysGood : ℕ → ℕ → ℕ → Step → Type 0
StaysGood groups granted more (goes_on c receipts) =
    IsGoodCourse c × (c.groups ≡ groups + length receipts) × (c.world.granted ≡ granted + more) × (length receipts ≤ 1)
StaysGood groups granted more (stops why) = Unit {0}
StaysGood groups granted more stuck_step = ⊥

abbrev pub CoursesBeginGood : Type 0
CoursesBeginGood = (s : Statement) → IsStatement s → StaysGood 0 0 (granted_by s) (first_step s)

abbrev pub CoursesStayGood : Type 0
CoursesStayGood = (c : Course) (s : Statement) → IsGoodCourse c → c.groups + 1 < 2 ^ 64 → IsStatement s →
    StaysGood c.groups c.world.granted (granted_by s) (step_behind c s)

-- ---- storage that is paid

-- a contract has paid for all of its size where there is a rate, and else for nothing
abbrev pub HasPaid : Option ℕ → Contract → Type 0
HasPaid (Some rate) c = size_of c ≤ c.paid
HasPaid None c = c.paid ≡ 0

-- so has each contract of a world, and nothing was burnt for storage where there is no rate
pub record IsPaid (w : World) : Type 0 where
  pub contracts : All (HasPaid w.rate) (values_of w.contracts)
  pub burn : w.rate ≡ None → w.storage_burn ≡ 0

-- its world is paid; and it has no contract yet where a profile may stand
pub record IsPaidCourse (c : Course) : Type 0 where
  pub paid : IsPaid c.world
  pub head : c.at_head ≡ true → c.world.contracts ≡ []

-- the course is paid, if it goes on
abbrev pub StaysPaid : Step → Type 0
StaysPaid (goes_on c receipts) = IsPaidCourse c
StaysPaid (stops why) = Unit {0}
StaysPaid stuck_step = Unit {0}

abbrev pub CoursesBeginPaid : Type 0
CoursesBeginPaid = (s : Statement) → StaysPaid (first_step s)

abbrev pub CoursesStayPaid : Type 0
CoursesStayPaid = (c : Course) (s : Statement) → IsPaidCourse c → IsStatement s → StaysPaid (step_behind c s)
