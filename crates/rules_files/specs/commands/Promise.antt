-- What the host promises of a call.
use Rattle.std.specs.Prelude.{◌≡◌, ◌⊎◌, ◌≤◌, ℕ, List, IsSome}
use Rattle.std.specs.declared.option.Option.{Option}
use Rattle.std.specs.Io.KnownBytes.{Appends, IsAtEnd}
use Rattle.rules_text.specs.streams.Causes.{Rose}
use Rattle.rules_text.specs.streams.Known.{AppendsFront}
use Rattle.rules_files.specs.commands.Lines.{text_of}
use Rattle.rules_files.specs.commands.Answers.{Answer}
use Rattle.rules_files.specs.commands.Commands.{Command, NoCommand, command_of, file_of, IsTold, IsAnswer}

-- a command's answer has this status, and its whole text was written
abbrev pub IsWhole : Command → (List ℕ → Option (List ℕ)) → Option (List ℕ) → Option (List ℕ) → ℕ → Type 0
IsWhole command content written_before written_now status =
    (answer : Answer) × IsAnswer command content answer × (status ≡ answer.status) × Appends written_before written_now (text_of answer.lines)

-- the words, what the files hold, the counts of faults of the files and of the sink before and now, what is left of the
-- file, and what is written before and now
pub record Meets (words : List (List ℕ)) (content : List ℕ → Option (List ℕ)) (reads_before reads_now writes_before writes_now : ℕ)
    (left written_before written_now : Option (List ℕ)) (status : ℕ) : Type 0 where
  -- there is no other status
  pub known : status ≤ 5
  -- statuses 0 to 2 are those of an answer, and its whole text was written
  pub whole : IsTold (command_of words) content → status ≤ 2 → IsWhole (command_of words) content written_before written_now status
  -- whatever the status is, a front of the answer's text was written
  pub front : (answer : Answer) → IsAnswer (command_of words) content answer → AppendsFront written_before written_now (text_of answer.lines)
  -- usage is told of no command
  pub usage : status ≡ 1 → command_of words ≡ NoCommand
  -- and a refusal of none but a command with a file
  pub refused : status ≡ 2 → IsSome (file_of (command_of words))
  -- a read fault is told only of a command with a file, and only where the count of the files rose
  pub read_fault : status ≡ 3 → IsSome (file_of (command_of words)) × Rose reads_before reads_now
  -- a write fault is told only where the count of the sink rose
  pub write_fault : status ≡ 4 → Rose writes_before writes_now
  -- where no count rose, the answer is the command's, or memory ran out
  pub complete : ¬ Rose reads_before reads_now → ¬ Rose writes_before writes_now → (status ≤ 2) ⊎ (status ≡ 5)
  -- after status 0 of a command with a file, the file was read to its end
  pub end : status ≡ 0 → IsSome (file_of (command_of words)) → IsAtEnd left
