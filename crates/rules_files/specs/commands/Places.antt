-- What stands in a file, by places: bytes counted from 0 (Octez "Micheline").
use Rattle.std.specs.Prelude.{◌≡◌, ℕ, ◌+◌, List, [], ◌∷◌, length, drop, Option, Some, None}
use Rattle.rules_text.specs.nodes.Tree.{Tree}
use Rattle.rules_text.specs.text.Text.{IsNode, IsFault, IsEnd}
use Rattle.rules_text.specs.declared.text.TextKind.{TextKind}

-- from a place on, this node is the next statement: it has this first byte, and this is the place behind its `;`
abbrev pub IsNodeAt : List ℕ → ℕ → Tree → ℕ → ℕ → Type 0
IsNodeAt file place tree first behind = (start : ℕ) × (end : ℕ) × IsNode place (drop place file) tree start end × (first + start ≡ length file) × (behind + end ≡ length file)

-- from a place on, this is the first fault of the text, and it has this place
abbrev pub IsFaultAt : List ℕ → ℕ → TextKind → ℕ → Type 0
IsFaultAt file place kind at = (left : ℕ) × IsFault place (drop place file) kind left × (at + left ≡ length file)

-- from a place on there are only white space and comments
abbrev pub IsEndAt : List ℕ → ℕ → Type 0
IsEndAt file place = IsEnd place (drop place file)

-- a statement of a file: the place of its first byte, and its node
pub record Placed : Type 0 where
  pub place : ℕ
  pub node : Tree

-- these statements stand one after another, from a place to a place
abbrev pub AreStatements : List ℕ → ℕ → List Placed → ℕ → Type 0
AreStatements file place [] to = place ≡ to
AreStatements file place (s ∷ ss) to = (behind : ℕ) × IsNodeAt file place s.node s.place behind × AreStatements file behind ss to

-- the statements of a file up to the first fault of its text, if it has one
pub record Listing : Type 0 where
  pub statements : List Placed
  pub fault : Option (TextKind × ℕ)

-- where the statements end there is this fault, or the end of the file
abbrev pub EndsIn : List ℕ → ℕ → Option (TextKind × ℕ) → Type 0
EndsIn file place (Some fault) = IsFaultAt file place fault.0 fault.1
EndsIn file place None = IsEndAt file place

abbrev pub IsListing : List ℕ → Listing → Type 0
IsListing file found = (to : ℕ) × AreStatements file 0 found.statements to × EndsIn file to found.fault
