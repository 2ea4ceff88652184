-- What `audit` answers to a file.
use Rattle.std.specs.Prelude.{◌≡◌, ℕ, List, [], ◌∷◌, ◌++◌, codes, decimal}
use Rattle.rules_audit.specs.Verdicts.{Verdict, agrees, is_bad_form, differs_supply, differs_tickets, differs_missing}
use Rattle.rules_audit.specs.Audits.{IsVerdict}
use Rattle.rules_files.specs.commands.Answers.{Answer, done_with, refused_with}

-- the line of numbers that differ
abbrev pub differing_line : List ℕ → List ℕ
differing_line what = codes "Differs " ++ (what ++ codes "\n")

abbrev pub differing : List ℕ → Answer
differing what = record { status = 2; lines = differing_line what ∷ [] }

abbrev pub verdict_answer : Verdict → Answer
verdict_answer agrees = done_with (codes "Agrees\n")
verdict_answer (is_bad_form n) = refused_with (codes "BadForm") n
verdict_answer differs_supply = differing (codes "Supply")
verdict_answer (differs_tickets k) = differing (codes "Tickets " ++ decimal k)
verdict_answer differs_missing = differing (codes "Missing")

abbrev pub IsAuditAnswer : List ℕ → Answer → Type 0
IsAuditAnswer file answer = (v : Verdict) × IsVerdict file v × (answer ≡ verdict_answer v)
