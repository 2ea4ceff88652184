-- What `check` answers to a file (Michelson reference, "Scripts" and "Typing").
use Rattle.std.specs.Prelude.{◌≡◌, ℕ, List, [], ◌∷◌, map, codes}
use Rattle.rules_text.specs.nodes.Tree.{Tree, seq, trees_of}
use Rattle.rules_code.specs.instructions.Arguments.{Found, found, fault}
use Rattle.rules_code.specs.typing.Scripts.{Script}
use Rattle.rules_code.specs.typing.Nodes.{script}
use Rattle.rules_files.specs.commands.Places.{Placed, Listing, IsListing}
use Rattle.rules_world.specs.lines.Nodes.{line, over, word, number}
use Rattle.rules_files.specs.commands.Answers.{Answer, done_with}
use Rattle.rules_files.specs.commands.Codec.{of_text}

-- the one statement of a file, where it is a sequence, is the script; else all statements are its sections
abbrev pub script_of : List Tree → Tree
script_of (seq ts ∷ []) = seq ts
script_of ts = seq (trees_of ts)

abbrev pub ill_typed : ℕ → Tree
ill_typed location = over (codes "IllTyped") (number location ∷ [])

abbrev pub checking_answer : Found Script → Answer
checking_answer (found accepted) = done_with (line (word (codes "WellTyped")))
checking_answer (fault location) = record { status = 2; lines = line (ill_typed location) ∷ [] }

abbrev pub check_statements : List Placed → Answer
check_statements statements = checking_answer (script (script_of (map (λ s. s.node) statements)))

-- the answer to a file; the first fault of its text comes before all else
abbrev pub IsCheckAnswer : List ℕ → Answer → Type 0
IsCheckAnswer file answer = (found : Listing) × IsListing file found × (answer ≡ of_text found.fault (check_statements found.statements))
