-- What the calls answer, whatever lines and parts came before.
use Rattle.std.specs.Prelude.{◌≡◌, ◌+◌, ℕ, Bool, List, [], ◌∷◌, ◌++◌, Result, IfOk}
use Rattle.std.specs.declared.option.Option.{Option}
use Rattle.std.specs.List.{AllByRecursion}
use Rattle.rules_audit.specs.Audits.{verdict_on}
use Rattle.rules_audit.specs.Fields as fields
use Rattle.rules_audit.specs.Form.{Form, IsForm}
use Rattle.rules_audit.specs.Lines.{Line}
use Rattle.mich_base.specs.declared.memory.Memory.{Memory}
use Rattle.mich_audit.specs.Pieces.{cut}
use Rattle.mich_audit.specs.Sums.{AreSums, added}
use Rattle.mich_audit.specs.Tallies.{AreKept, Entries, HasForm, HaveForms, IsLined, IsTaken, IsTally}
use Rattle.mich_audit.specs.View.{identity_seen, part_seen, parts_seen, verdict_seen}
use Rattle.mich_audit.specs.declared.part.Identity.{Identity}
use Rattle.mich_audit.specs.declared.part.Part.{Part}
use Rattle.mich_audit.specs.declared.sums.Sums.{Sums}
use Rattle.mich_audit.specs.declared.tally.Tally.{Tally}
use Rattle.mich_audit.specs.declared.verdict.Verdict.{Verdict}

-- a part comes to what is kept
abbrev pub AddsPart : Part → Entries → Entries → Result (Unit {0}) Memory → Type 0
AddsPart p old new result =
    (ps : List fields.Part) (ls : List Line) → AreKept ps ls old → HasForm (identity_seen p.identity)
    → IfOk result (λ _. AreKept (part_seen p ∷ ps) ls new)

-- parts come to it
abbrev pub AddsParts : List Part → Entries → Entries → Result (Unit {0}) Memory → Type 0
AddsParts more old new result =
    (ps : List fields.Part) (ls : List Line) → AreKept ps ls old → AllByRecursion (λ p. HasForm p.identity) (parts_seen more)
    → IfOk result (λ _. AreKept (parts_seen more ++ ps) ls new)

-- a ticket gets a line with any numbers, where it has none
abbrev pub AddsLine : Identity → Entries → Entries → Result (Option Sums) Memory → Type 0
AddsLine id old new result =
    (ps : List fields.Part) (ls : List Line) → AreKept ps ls old → HasForm (identity_seen id) → (m b h : ℕ)
    → IfOk result (λ sums. IsLined ps ls (identity_seen id) m b h new sums)

-- these are the sums with one more amount of a sort
abbrev pub AreSumsWith : fields.Sort → ℕ → ℕ → ℕ → ℕ → Bool → Sums → Type 0
AreSumsWith sort n m b h lined s =
    AreSums (m + added fields.minted sort n) (b + added fields.burnt sort n) (h + added fields.held sort n) lined s

-- a line is taken, where it can follow the lines before it
abbrev pub TakesLine : Line → Tally → Tally → Result Bool Memory → Type 0
TakesLine l old new result =
    (before : List Line) → IsTally before old → HaveForms l → IfOk result (λ taken. IsTaken before l new taken)

-- the verdict where a text ends with this behind its lines, or is longer
abbrev pub IsEndVerdict : List Line → Bool → List ℕ → Verdict → Type 0
IsEndVerdict before longer rest v = (form : Form) × IsForm before (cut longer [] rest) form × (verdict_seen v ≡ verdict_on form)
