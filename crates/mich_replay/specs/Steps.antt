-- What taking statements leaves.
use Rattle.std.specs.Prelude.{◌≡◌, ◌+◌, ◌<◌, ◌^◌, ℕ, List, [], ◌∷◌, ◌++◌, length, Option, Some, None, Result, Ok, Err}
use Rattle.rules_files.specs.course.Course.{Course as PlainCourse, Step}
use Rattle.rules_files.specs.commands.Replay.{Run, going, stopped, taken}
use Rattle.rules_files.specs.statements.Statements.{Statement}
use Rattle.rules_world.specs.world.Receipts.{Receipt}
use Rattle.mich_base.specs.declared.memory.Memory.{Memory}
use Rattle.mich_group.specs.course.Following.{Follows, Goes, Begins}
use Rattle.mich_group.specs.declared.course.course.Course.{Course}
use Rattle.mich_group.specs.declared.course.error.CourseError.{CourseError}
use Rattle.mich_ops.specs.Told.{told_receipt}
use Rattle.mich_ops.specs.View.{receipt}
use Rattle.mich_ops.specs.declared.receipt.GroupReceipt.{GroupReceipt}
use Rattle.mich_replay.specs.declared.steps.Event.{Event}
use Rattle.mich_replay.specs.declared.steps.Event.TheVariants as event
use Rattle.mich_replay.specs.View.{file_fault_seen}

-- ---- courses, of which there is none before the first statement

abbrev pub FollowsIf : Option Course → Option PlainCourse → Type 0
FollowsIf None None = Unit {0}
FollowsIf (Some c) (Some p) = Follows c p
FollowsIf None (Some p) = ⊥
FollowsIf (Some c) None = ⊥

abbrev pub groups_of : Option Course → ℕ
groups_of None = 0
groups_of (Some c) = c.groups

-- there may be one more group
abbrev pub HasRoom : Option Course → Type 0
HasRoom c = groups_of c + 1 < 2 ^ 64

-- a statement leads to this course, and tells this; or it is refused so, as the rules refuse it
abbrev pub Leads : Step → Option Course → Result (Option GroupReceipt) CourseError → Type 0
Leads step (Some c) r = Goes step c r
Leads step None (Err e) = Begins step (Err e)
Leads step None (Ok r) = ⊥

-- ---- receipts

-- behind so many groups and these receipts the code's course follows one of the rules
pub record Stands (groups : ℕ) (receipts : List Receipt) (p : Option PlainCourse) (c : Option Course) : Type 0 where
  pub follows : FollowsIf c p
  pub count : groups_of c ≡ groups + length receipts

-- a receipt of the rules of which the code's tells all
abbrev pub Tells : GroupReceipt → Receipt → Type 0
Tells told found = told_receipt found ≡ receipt told

-- behind these receipts a statement at a place left this course, and this is told of it
abbrev pub IsTaken : ℕ → List Receipt → ℕ → Run → Option Course → Result Event Memory → Type 0
IsTaken groups before place (going receipts p) c (Ok event.Taken) = (receipts ≡ before) × Stands groups receipts p c
IsTaken groups before place (going receipts p) c (Ok (event.Group told)) = (found : Receipt) × Tells told found × (receipts ≡ before ++ found ∷ []) × Stands groups receipts p c
IsTaken groups before place (stopped receipts f at) c (Ok (event.Refused fault here)) = (receipts ≡ before) × (f ≡ file_fault_seen fault) × (at ≡ here) × (here ≡ place)
IsTaken groups before place run c (Err e) = Unit {0}
IsTaken groups before place run c (Ok r) = ⊥

-- so it is of the statement at a place, or of a node that is none, behind whatever receipts
abbrev pub Takes : ℕ → Option Statement → (before now : Option Course) → Result Event Memory → Type 0
Takes place s before now result = (groups : ℕ) (receipts : List Receipt) (p : Option PlainCourse) → Stands groups receipts p before
    → IsTaken groups receipts place (taken receipts p place s) now result
