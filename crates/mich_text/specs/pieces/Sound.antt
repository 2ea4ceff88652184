-- What is true of what a reader keeps.
use Rattle.std.specs.Prelude.{◌≡◌, ℕ, ◌+◌, ◌≤◌, ◌⊎◌, List, ◌++◌, length, Bool, true, Option, Some, None, Result, Ok, Err}
use Rattle.rules_text.specs.nodes.Limits.{statement_limit, file_limit}
use Rattle.rules_text.specs.nodes.Tree.{Tree}
use Rattle.rules_text.specs.text.Lexical.{after_gap}
use Rattle.rules_text.specs.text.Text.{IsLimit}
use Rattle.mich_base.specs.View.{tree}
use Rattle.mich_base.specs.declared.memory.Memory.{Memory}
use Rattle.mich_text.specs.declared.reader.Placed.{Placed}
use Rattle.mich_text.specs.pieces.Fronts.{IsClosed}
use Rattle.mich_text.specs.pieces.Held.{Held}
use Rattle.mich_text.specs.pieces.Reading.{KeepsFault}
use Rattle.mich_text.specs.pieces.Scans.{IsScanned}
use Rattle.mich_text.specs.declared.pieces.scan.Scan.{Scan}

-- no statement will have its `;`, whatever follows
abbrev pub NeverClosed : ℕ → List ℕ → Type 0
NeverClosed place held = (more : List ℕ) (tree : Tree) (start end : ℕ) → IsClosed place (held ++ more) tree start end → ⊥

pub record IsSound (r : Held) (scan : Scan) (hopeless : Bool) : Type 0 where
  pub place : r.place ≤ file_limit
  pub scanned : IsScanned r.bytes scan
  pub never : hopeless ≡ true → NeverClosed r.place r.bytes
  pub fault : KeepsFault r r.fault

-- a statement that has its `;`, with its places in the file
pub record IsPlaced (place : ℕ) (held : List ℕ) (placed : Placed) : Type 0 where
  pub start : ℕ
  pub end : ℕ
  pub closed : IsClosed place held (tree placed.node) start end
  pub start_is : placed.start + start ≡ place + length held
  pub end_is : placed.end + end ≡ place + length held

-- what trying gave, where a `;` was found or not
abbrev pub IsTried : ℕ → List ℕ → Bool → Result (Option Placed) Memory → Type 0
IsTried place held found (Ok (Some placed)) = IsPlaced place held placed
IsTried place held found (Ok None) = ((tree : Tree) (start end : ℕ) → IsClosed place held tree start end → ⊥) × (found ≡ true → NeverClosed place held)
IsTried place held found (Err e) = Unit {0}

-- what was found
abbrev pub IsFound : Held → Result (Option Placed) Memory → Type 0
IsFound r (Ok (Some placed)) = IsPlaced r.place r.bytes placed
IsFound r (Ok None) = (tree : Tree) (start end : ℕ) → IsClosed r.place r.bytes tree start end → ⊥
IsFound r (Err e) = Unit {0}

-- a byte past a limit was fed
abbrev pub IsPast : ℕ → List ℕ → Type 0
IsPast place held = (limit : ℕ) × IsLimit place held limit

-- or none was
abbrev pub IsShort : ℕ → List ℕ → Type 0
IsShort place held = ((first : List ℕ) → after_gap held ≡ Some first → length first ≤ statement_limit) × (place + length held ≤ file_limit)

-- what the text is doesn't depend on what follows
abbrev pub IsDecided : Held → Bool → Type 0
IsDecided r last = (last ≡ true) ⊎ IsPast r.place r.bytes
