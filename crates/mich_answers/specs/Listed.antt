-- What is kept of the statements of a file: the first, the place of the second, and the fault behind them.
use Rattle.std.specs.Prelude.{◌≡◌, ◌<◌, ◌≤◌, ◌+◌, ℕ, List, [], length, ◌∷◌, Option, Some, None, option_map}
use Rattle.rules_text.specs.nodes.Tree.{Tree, size}
use Rattle.rules_text.specs.declared.text.TextKind.{TextKind}
use Rattle.rules_files.specs.commands.Answers.{Answer, misplaced, refused_with}
use Rattle.rules_files.specs.commands.Certificates.{IsVerified}
use Rattle.rules_files.specs.commands.Lines.{text_kind_name}
use Rattle.rules_files.specs.commands.Places.{Placed, Listing, IsListing, IsNodeAt, IsFaultAt, IsEndAt, AreStatements}
use Rattle.mich_base.specs.View.{tree}
use Rattle.mich_text.specs.declared.reader.Placed.{Placed as CodePlaced}
use Rattle.mich_answers.specs.declared.statements.Listed.{Listed}
use Rattle.mich_answers.specs.declared.statements.Next.{Next}
use Rattle.mich_answers.specs.declared.statements.Next.TheVariants as next

abbrev pub first_of : List Placed → Option Placed
first_of [] = None
first_of (s ∷ ss) = Some s

abbrev pub second_place : List Placed → Option ℕ
second_place [] = None
second_place (s ∷ []) = None
second_place (s ∷ r ∷ ss) = Some r.place

abbrev pub placed_seen : CodePlaced → Placed
placed_seen p = record { place = p.start; node = tree p.node }

-- this is kept of these statements
pub record Keeps (ss : List Placed) (first : Option CodePlaced) (second : Option ℕ) : Type 0 where
  pub first_is : option_map placed_seen first ≡ first_of ss
  pub second_is : second ≡ second_place ss

-- the first has at most so many nodes
abbrev pub IsSmall : ℕ → Option CodePlaced → Type 0
IsSmall most None = Unit {0}
IsSmall most (Some p) = size (tree p.node) ≤ most

-- a statement stands at a place
abbrev pub IsAt : List ℕ → ℕ → CodePlaced → Type 0
IsAt file place p = IsNodeAt file place (tree p.node) p.start p.end

-- it has at most as many nodes as there are bytes to its end
abbrev pub Fits : ℕ → CodePlaced → Type 0
Fits place p = size (tree p.node) + place ≤ p.end

-- of statements up to a place this is kept
pub record Passed (file : List ℕ) (place : ℕ) (first : Option CodePlaced) (second : Option ℕ) : Type 0 where
  pub statements : List Placed
  pub stand : AreStatements file 0 statements place
  pub kept : Keeps statements first second
  pub small : IsSmall place first

-- this is kept of a whole file
pub record IsListed (file : List ℕ) (l : Listed) : Type 0 where
  pub found : Listing
  pub listing : IsListing file found
  pub kept : Keeps found.statements l.first l.second
  pub small : IsSmall (length file) l.first
  pub fault_is : l.fault ≡ found.fault

-- the answer to what is kept, of a command that gives this answer to a node
abbrev pub beside : Option Answer → ℕ → Option ℕ → Answer
beside None start second = misplaced start
beside (Some answer) start None = answer
beside (Some answer) start (Some at) = misplaced at

abbrev pub of_kept : (Tree → Option Answer) → ℕ → Option CodePlaced → Option ℕ → Answer
of_kept command size None second = misplaced size
of_kept command size (Some p) second = beside (command (tree p.node)) p.start second

-- the answer of `verify` to what is kept
abbrev pub IsKeptVerified : Option (TextKind × ℕ) → ℕ → Option CodePlaced → Option ℕ → Answer → Type 0
IsKeptVerified (Some fault) size first second answer = answer ≡ refused_with (text_kind_name fault.0) fault.1
IsKeptVerified None size None second answer = answer ≡ misplaced size
IsKeptVerified None size (Some p) None answer = IsVerified (tree p.node) answer
IsKeptVerified None size (Some p) (Some at) answer = answer ≡ misplaced at

-- this stands in a file from a place on; a statement has at most as many nodes as bytes, so at least a byte
abbrev pub IsNext : List ℕ → ℕ → Next → Type 0
IsNext file place next.End = IsEndAt file place
IsNext file place (next.Statement p) = IsAt file place p × (place < p.end) × Fits place p × (p.end ≤ length file)
IsNext file place (next.Fault kind at) = IsFaultAt file place kind at
