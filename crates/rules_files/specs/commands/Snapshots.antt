-- What `snapshot` answers: the bytes of the state that a file comes to, or one line.
use Rattle.std.specs.Prelude.{◌≡◌, ◌⊎◌, ℕ, List, [], ◌∷◌, length, codes, None, Some}
use Rattle.std.specs.List.{flat_map}
use Rattle.std.specs.declared.option.Option.{Option}
use Rattle.rules_text.specs.declared.text.TextKind.{TextKind}
use Rattle.rules_files.specs.statements.Statements.{Statement, form}
use Rattle.rules_files.specs.course.Course.{Course}
use Rattle.rules_files.specs.commands.Places.{Placed, AreStatements, IsEndAt, IsFaultAt}
use Rattle.rules_files.specs.commands.Replay.{FileFault, TextFault, BadOrder, Run, going, stopped, stuck_run, run_all}
use Rattle.rules_files.specs.commands.Lines.{file_fault_name}
use Rattle.rules_files.specs.commands.Answers.{Answer, done_with, refused_with}
use Rattle.rules_files.specs.snapshots.State.{State}
use Rattle.rules_files.specs.snapshots.Course.{state_of}
use Rattle.rules_files.specs.snapshots.Loading.{saved}

-- the state that a file comes to, or the fault and the byte at which it stands
pub data Reached : Type 0 where
  came_to : State → Reached
  refused_at : FileFault → (place : ℕ) → Reached

abbrev pub as_list : {A : Type 0} → Option A → List A
as_list None = []
as_list (Some x) = x ∷ []

-- the statements that nodes are
abbrev pub statements_of : List Placed → List Statement
statements_of placed = flat_map (λ p. as_list (form p.node)) placed

-- at the end of a file: the state, or a refusal where there was no statement
abbrev pub reached_by : ℕ → List Placed → Option Course → Reached
reached_by size placed (Some c) = came_to (state_of (statements_of placed) c)
reached_by size placed None = refused_at BadOrder size

-- the statements end at a place, where the file ends or its text has a fault, or one of them was refused
abbrev pub Reaches : List ℕ → List Placed → ℕ → Run → Reached → Type 0
Reaches file placed to (stopped receipts f place) reached = reached ≡ refused_at f place
Reaches file placed to (going receipts c) reached =
    (IsEndAt file to × (reached ≡ reached_by (length file) placed c))
    ⊎ ((kind : TextKind) × (place : ℕ) × IsFaultAt file to kind place × (reached ≡ refused_at (TextFault kind) place))
Reaches file placed to stuck_run reached = ⊥

-- the bytes of a file come to this
pub record IsReached (file : List ℕ) (reached : Reached) : Type 0 where
  pub statements : List Placed
  pub to : ℕ
  pub stand : AreStatements file 0 statements to
  pub reaches : Reaches file statements to (run_all (going [] None) statements) reached

-- ---- the answer

abbrev pub saved_answer : Option (List ℕ) → Answer
saved_answer (Some bytes) = done_with bytes
saved_answer None = refused_with (codes "TooLong") 0

abbrev pub snapshot_answer : Reached → Answer
snapshot_answer (came_to s) = saved_answer (saved s)
snapshot_answer (refused_at f place) = refused_with (file_fault_name f) place

abbrev pub IsSnapshotAnswer : List ℕ → Answer → Type 0
IsSnapshotAnswer file answer = (reached : Reached) × IsReached file reached × (answer ≡ snapshot_answer reached)
