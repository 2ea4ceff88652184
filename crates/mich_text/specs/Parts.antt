-- A part of a file.
use Rattle.std.specs.Prelude.{◌≡◌, ℕ, ◌+◌, List, [], length, Option, Some, None, Result, Ok, Err}
use Rattle.rules_text.specs.nodes.Tree.{Tree}
use Rattle.rules_text.specs.text.Text as within
use Rattle.mich_base.specs.View.{tree}
use Rattle.mich_base.specs.declared.node.Node.{Node}
use Rattle.mich_base.specs.declared.memory.Memory.{Memory}
use Rattle.mich_text.specs.declared.reader.Placed.{Placed}
use Rattle.mich_text.specs.declared.fault.TextError.{TextError}
use Rattle.mich_text.specs.declared.fault.TextError.TheVariants as texts

-- What the rest of a file is, where a statement begins. So many bytes of the file stand before it.
abbrev pub IsPart : ℕ → List ℕ → Result (Option Placed) TextError → Type 0
IsPart before text (Ok None) = within.IsEnd before text
IsPart before text (Ok (Some placed)) = (start : ℕ) × (end : ℕ) × within.IsNode before text (tree placed.node) start end × (placed.start + start ≡ before + length text) × (placed.end + end ≡ before + length text)
IsPart before text (Err texts.Memory) = Unit {0}
IsPart before text (Err (texts.Fault kind place)) = (left : ℕ) × within.IsFault before text kind left × (place + left ≡ before + length text)

-- one statement without its `;` is the whole text
abbrev pub IsAlone : List ℕ → Tree → Type 0
IsAlone text t = (start : ℕ) × (node : within.IsNode 0 text t start 0) × (node.stands.rest ≡ [])

-- the node of a text that is one statement without its `;`, or none of another text
abbrev pub IsAloneRead : List ℕ → Result (Option Node) Memory → Type 0
IsAloneRead text (Ok None) = (t : Tree) → IsAlone text t → ⊥
IsAloneRead text (Ok (Some n)) = IsAlone text (tree n)
IsAloneRead text (Err e) = Unit {0}
