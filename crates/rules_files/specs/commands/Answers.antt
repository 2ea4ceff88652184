-- What a command answers: a status, and the lines that are written.
use Rattle.std.specs.Prelude.{ℕ, List, [], ◌∷◌}
use Rattle.rules_files.specs.commands.Replay.{Replay, Ending, State, RefusedAt, BadStatement}
use Rattle.rules_files.specs.commands.Lines.{lines_of, refusal_line, file_fault_name, usage_line}

pub record Answer : Type 0 where
  pub status : ℕ
  pub lines : List (List ℕ)

-- the one line of a command that was done, and of one that refuses its file
abbrev pub done_with : List ℕ → Answer
done_with line = record { status = 0; lines = line ∷ [] }

abbrev pub refused_with : List ℕ → ℕ → Answer
refused_with name place = record { status = 2; lines = refusal_line name place ∷ [] }

-- at a place there is no statement of the form that the command takes
abbrev pub misplaced : ℕ → Answer
misplaced place = refused_with (file_fault_name BadStatement) place

-- 0 where a file was applied to its end, 2 where it is refused
abbrev pub status_of : Ending → ℕ
status_of (State w) = 0
status_of (RefusedAt fault place) = 2

abbrev pub replay_answer : Replay → Answer
replay_answer done = record { status = status_of done.ending; lines = lines_of done }

abbrev pub usage_answer : Answer
usage_answer = record { status = 1; lines = usage_line ∷ [] }
