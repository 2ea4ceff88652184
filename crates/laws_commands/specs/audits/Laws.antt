-- Laws of audits.
use Rattle.std.specs.Prelude.{◌≡◌, ◌↔◌, ℕ, Bool, true, List, map, Some}
use Rattle.rules_text.specs.nodes.Tree.{Tree}
use Rattle.rules_text.specs.text.Printed.{printed}
use Rattle.mich_text.specs.Written.{HasTextForm}
use Rattle.rules_audit.specs.Same.{same_tree}
use Rattle.rules_data.specs.types.Kind.{Kind}
use Rattle.rules_data.specs.values.Val.{Val}
use Rattle.rules_data.specs.values.Tickets.{tickets}
use Rattle.rules_data.specs.values.Canonical.{canonical}
use Rattle.rules_code.specs.typing.Fits.{Fits}
use Rattle.laws_data.specs.types.Laws.{IsWellFormed}
use Rattle.laws_typing.specs.literals.Laws.{told_by}
use Rattle.rules_audit.specs.Fields.{Identity, tickets_in}
use Rattle.rules_audit.specs.Form.{Holds, same_identity}
use Rattle.rules_audit.specs.Verdicts.{Verdict}
use Rattle.rules_audit.specs.Audits.{IsVerdict}
use Rattle.laws_commands.specs.audits.Told.{told}

-- a text has one verdict
abbrev pub OneVerdict : Type 0
OneVerdict = (file : List ℕ) (v w : Verdict) → IsVerdict file v → IsVerdict file w → v ≡ w

-- the test of two nodes, and of two tickets, holds exactly where they are equal
abbrev pub SameNodes : Type 0
SameNodes = ((t u : Tree) → same_tree t u ≡ true ↔ t ≡ u) × ((i j : Identity) → same_identity i j ≡ true ↔ i ≡ j)

-- what is read of the printed line of a node whose parts have their forms is that node
abbrev pub PrintedLinesAreRead : Type 0
PrintedLinesAreRead = (t u : Tree) → HasTextForm t → Holds (printed t) u → u ≡ t

-- the literal of a value of a type tells the tickets in it, each by its place and in their order, and no others
abbrev pub LiteralsTellTickets : Type 0
LiteralsTellTickets = (is_contract : List ℕ → Kind → Bool) (is_issued : ℕ → Bool) (a : Kind) (x : Val) → IsWellFormed a → Fits (told_by is_contract is_issued) a x →
    tickets_in (canonical x) ≡ Some (map told (tickets x))
