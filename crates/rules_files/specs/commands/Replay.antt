-- What a file comes to: a receipt for each group, and the world at the end, or the refusal of the file.
use Rattle.std.specs.Prelude.{◌≡◌, ◌⊎◌, ℕ, List, [], ◌∷◌, ◌++◌, length, None, Some}
use Rattle.std.specs.declared.option.Option.{Option}
use Rattle.rules_text.specs.declared.text.TextKind.{TextKind}
use Rattle.rules_files.specs.statements.Statements.{Statement, form}
use Rattle.rules_world.specs.world.Receipts.{Receipt}
use Rattle.rules_world.specs.world.World.{World}
use Rattle.rules_files.specs.course.Course.{Course, Step, goes_on, stops, stuck_step, first_step, step_behind}
use Rattle.rules_files.specs.course.Course as course
use Rattle.rules_files.specs.commands.Places.{Placed, AreStatements, IsEndAt, IsFaultAt}

-- Why a file is refused: a fault of its text; a node that is no statement; a statement that can't stand where it stands, or a
-- file without statements; a bad row of prices; an account that is there; or more mutez granted than there may be.
pub data FileFault : Type 0 where
  TextFault : TextKind → FileFault
  BadStatement : FileFault
  BadOrder : FileFault
  BadCosts : FileFault
  RepeatedAccount : FileFault
  SupplyLimit : FileFault

abbrev pub fault_of : course.Refusal → FileFault
fault_of course.BadOrder = BadOrder
fault_of course.BadCosts = BadCosts
fault_of course.RepeatedAccount = RepeatedAccount
fault_of course.SupplyLimit = SupplyLimit

-- the world at the end, or the fault and the byte at which it stands
pub data Ending : Type 0 where
  State : World → Ending
  RefusedAt : FileFault → (place : ℕ) → Ending

pub record Replay : Type 0 where
  pub receipts : List Receipt
  pub ending : Ending

-- ---- statements in order

-- what a statement comes to behind others, or as the first one
abbrev pub step : Option Course → Statement → Step
step None s = first_step s
step (Some c) s = step_behind c s

-- The receipts so far, and how far the file has come; or the refusal with its place, behind which nothing counts; or a group that
-- has no outcome, which comes in no file.
pub data Run : Type 0 where
  going : List Receipt → Option Course → Run
  stopped : List Receipt → FileFault → (place : ℕ) → Run
  stuck_run : Run

abbrev pub continued : List Receipt → ℕ → Step → Run
continued receipts place (goes_on c more) = going (receipts ++ more) (Some c)
continued receipts place (stops why) = stopped receipts (fault_of why) place
continued receipts place stuck_step = stuck_run

-- a node that is no statement is refused before all else
abbrev pub taken : List Receipt → Option Course → ℕ → Option Statement → Run
taken receipts c place (Some s) = continued receipts place (step c s)
taken receipts c place None = stopped receipts BadStatement place

abbrev pub run_one : Run → Placed → Run
run_one (going receipts c) s = taken receipts c s.place (form s.node)
run_one (stopped receipts f place) s = stopped receipts f place
run_one stuck_run s = stuck_run

abbrev pub run_all : Run → List Placed → Run
run_all r [] = r
run_all r (s ∷ ss) = run_all (run_one r s) ss

-- ---- files

-- at the end of a file: the world, or a refusal where there was no statement
abbrev pub ending_of : ℕ → Option Course → Ending
ending_of size (Some c) = State c.world
ending_of size None = RefusedAt BadOrder size

-- the statements end at a place, where the file ends or its text has a fault, or one of them was refused
abbrev pub Closes : List ℕ → ℕ → Run → Replay → Type 0
Closes file to (stopped receipts f place) done = done ≡ record { receipts = receipts; ending = RefusedAt f place }
Closes file to (going receipts c) done =
    (IsEndAt file to × (done ≡ record { receipts = receipts; ending = ending_of (length file) c }))
    ⊎ ((kind : TextKind) × (place : ℕ) × IsFaultAt file to kind place × (done ≡ record { receipts = receipts; ending = RefusedAt (TextFault kind) place }))
Closes file to stuck_run done = ⊥

-- the bytes of a file come to this
pub record IsReplay (file : List ℕ) (done : Replay) : Type 0 where
  pub statements : List Placed
  pub to : ℕ
  pub stand : AreStatements file 0 statements to
  pub closes : Closes file to (run_all (going [] None) statements) done
