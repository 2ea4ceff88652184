-- What `certify` and `verify` answer to a file.
use Rattle.std.specs.Prelude.{◌≡◌, ◌⊎◌, ℕ, List, [], ◌∷◌, length, map, codes, None, Some}
use Rattle.std.specs.declared.option.Option.{Option}
use Rattle.rules_text.specs.declared.text.TextKind.{TextKind}
use Rattle.rules_text.specs.nodes.Tree.{Tree}
use Rattle.rules_code.specs.certificates.Certificates.{Certifying, certified, ill_typed, too_deep, too_long, certifying, IsValid}
use Rattle.rules_world.specs.lines.Nodes.{line, word}
use Rattle.rules_files.specs.commands.Places.{Placed, Listing, IsListing}
use Rattle.rules_files.specs.commands.Lines.{text_kind_name}
use Rattle.rules_files.specs.commands.Answers.{Answer, done_with, refused_with, misplaced}
use Rattle.rules_files.specs.commands.Codec.{of_text}
use Rattle.rules_files.specs.commands.Scripts.{script_of}
use Rattle.rules_files.specs.commands.Scripts as check

-- ---- certify: a script, as `check` takes it

abbrev pub certifying_answer : Certifying → Answer
certifying_answer (certified n) = done_with (line n)
certifying_answer (ill_typed location) = record { status = 2; lines = line (check.ill_typed location) ∷ [] }
certifying_answer (too_deep location) = refused_with (codes "TooDeep") location
certifying_answer too_long = refused_with (codes "TooLong") 0

abbrev pub certify_statements : List Placed → Answer
certify_statements statements = certifying_answer (certifying (script_of (map (λ s. s.node) statements)))

abbrev pub IsCertifyAnswer : List ℕ → Answer → Type 0
IsCertifyAnswer file answer = (found : Listing) × IsListing file found × (answer ≡ of_text found.fault (certify_statements found.statements))

-- ---- verify: any node

abbrev pub IsVerified : Tree → Answer → Type 0
IsVerified n answer =
    (IsValid n × (answer ≡ done_with (line (word (codes "Valid")))))
    ⊎ ((IsValid n → ⊥) × (answer ≡ record { status = 2; lines = line (word (codes "Invalid")) ∷ [] }))

-- the one statement of a file of so many bytes
abbrev pub IsAloneVerified : ℕ → List Placed → Answer → Type 0
IsAloneVerified size [] answer = answer ≡ misplaced size
IsAloneVerified size (s ∷ []) answer = IsVerified s.node answer
IsAloneVerified size (s ∷ r ∷ ss) answer = answer ≡ misplaced r.place

-- the first fault of the text comes before all else
abbrev pub IsListedVerified : Option (TextKind × ℕ) → ℕ → List Placed → Answer → Type 0
IsListedVerified (Some fault) size statements answer = answer ≡ refused_with (text_kind_name fault.0) fault.1
IsListedVerified None size statements answer = IsAloneVerified size statements answer

abbrev pub IsVerifyAnswer : List ℕ → Answer → Type 0
IsVerifyAnswer file answer =
    (found : Listing) × IsListing file found × IsListedVerified found.fault (length file) found.statements answer
