-- What is known of a sink, and lines that are written to it.
use Rattle.std.specs.Prelude.{◌≡◌, ◌≤◌, ℕ, List, [], ◌∷◌, Result, Ok, Err}
use Rattle.std.specs.declared.option.Option.{Option}
use Rattle.std.specs.Io.KnownBytes.{Appends}
use Rattle.rules_text.specs.streams.Known.{AppendsFront}
use Rattle.rules_files.specs.commands.Answers.{Answer}
use Rattle.rules_files.specs.commands.Commands.{IsAnswer, IsTold, command_of}
use Rattle.rules_files.specs.commands.Lines.{text_of}
use Rattle.mich_io.specs.Handed.{HandsAll, HandsFront}
use Rattle.mich_io.specs.declared.stop.Stop.{Stop}

-- all that was written to it, and the pieces that it was handed
pub record Output : Type 0 where
  pub written : Option (List ℕ)
  pub handed : Option (List (List ℕ))

abbrev pub output : Option (List ℕ) → Option (List (List ℕ)) → Output
output written handed = record { written = written; handed = handed }

-- these lines were written, and each was handed over whole
pub record Writes (before now : Output) (lines : List (List ℕ)) : Type 0 where
  pub text : Appends before.written now.written (text_of lines)
  pub pieces : HandsAll before.handed now.handed lines

-- or a front of them was
pub record WritesFront (before now : Output) (lines : List (List ℕ)) : Type 0 where
  pub text : AppendsFront before.written now.written (text_of lines)
  pub pieces : HandsFront before.handed now.handed lines

-- the line of a refusal was written, with its status; or a front of it was
abbrev pub RefusesWith : List ℕ → (before now : Output) → Result ℕ Stop → Type 0
RefusesWith line before now (Ok status) = (status ≡ 2) × Writes before now (line ∷ [])
RefusesWith line before now (Err e) = WritesFront before now (line ∷ [])

-- Each line of the answer was handed over whole, and then what was left of it, until all of it was taken. Whatever the status is, a front of
-- that was done.
pub record HandsLines (words : List (List ℕ)) (content : List ℕ → Option (List ℕ)) (before now : Option (List (List ℕ))) (status : ℕ) : Type 0 where
  pub whole : IsTold (command_of words) content → status ≤ 2 →
      (answer : Answer) × IsAnswer (command_of words) content answer × (status ≡ answer.status) × HandsAll before now answer.lines
  pub front : (answer : Answer) → IsAnswer (command_of words) content answer → HandsFront before now answer.lines
