-- What `resume` answers: a snapshot is loaded, and a file goes on from its state.
use Rattle.std.specs.Prelude.{◌≡◌, ℕ, ◌+◌, List, [], ◌++◌, codes, Some, Result, Ok, Err}
use Rattle.std.specs.declared.option.Option.{Option}
use Rattle.rules_files.specs.course.Course.{Course}
use Rattle.rules_files.specs.commands.Places.{Placed, AreStatements}
use Rattle.rules_files.specs.commands.Replay.{Replay, going, run_all, Closes}
use Rattle.rules_files.specs.commands.Lines.{group_lines, ending_lines}
use Rattle.rules_files.specs.commands.Answers.{Answer, status_of, refused_with}
use Rattle.rules_files.specs.snapshots.State.{State}
use Rattle.rules_files.specs.snapshots.Course.{course_of}
use Rattle.rules_files.specs.snapshots.Loading.{LoadFault, BadForm, Unsound, loaded}

-- the bytes of a file that goes on from a course come to this; the statements of the file alone are told, and it needs none
pub record IsResumed (c : Course) (file : List ℕ) (done : Replay) : Type 0 where
  pub statements : List Placed
  pub to : ℕ
  pub stand : AreStatements file 0 statements to
  pub closes : Closes file to (run_all (going [] (Some c)) statements) done

-- ---- the answer

-- groups are numbered on from those that there were
abbrev pub resumed_answer : ℕ → Replay → Answer
resumed_answer groups done =
    record { status = status_of done.ending; lines = group_lines (groups + 1) done.receipts ++ ending_lines done.ending }

abbrev pub load_answer : LoadFault → Answer
load_answer (BadForm place) = refused_with (codes "BadForm") place
load_answer (Unsound place) = refused_with (codes "Unsound") place

-- where loading is refused the file isn't read
abbrev pub Resumes : Result State LoadFault → Option (List ℕ) → Answer → Type 0
Resumes (Err fault) content answer = answer ≡ load_answer fault
Resumes (Ok s) content answer =
    (file : List ℕ) × (content ≡ Some file) × ((done : Replay) × IsResumed (course_of s) file done × (answer ≡ resumed_answer s.groups done))

abbrev pub IsResumeAnswer : List ℕ → Option (List ℕ) → Answer → Type 0
IsResumeAnswer snapshot content answer = Resumes (loaded snapshot) content answer
