-- The nodes of a file, whose script is typed.
use Rattle.std.specs.Prelude.{◌≡◌, ◌≤◌, ℕ, Bool, true, false, List, [], ◌∷◌, length, map}
use Rattle.rules_text.specs.nodes.Tree.{Tree, seq, sizes}
use Rattle.rules_files.specs.commands.Places.{Listing, IsListing, Placed, AreStatements}
use Rattle.mich_base.specs.View.{tree, trees}
use Rattle.mich_base.specs.declared.node.Node.{Node}
use Rattle.mich_answers.specs.declared.checking.Statements.{Statements}

abbrev pub nodes_of : List Placed → List Tree
nodes_of ss = map (λ s. s.node) ss

-- whether they are one node, and it is a sequence
abbrev pub is_one_sequence : List Tree → Bool
is_one_sequence (seq ts ∷ []) = true
is_one_sequence ts = false

-- these are the nodes of the statements up to a place
pub record Through (file : List ℕ) (place : ℕ) (nodes : List Node) : Type 0 where
  pub statements : List Placed
  pub stand : AreStatements file 0 statements place
  pub nodes_are : map tree nodes ≡ nodes_of statements
  pub small : sizes (trees nodes) ≤ place

-- these are the nodes of a whole file
pub record IsWhole (file : List ℕ) (l : Statements) : Type 0 where
  pub found : Listing
  pub listing : IsListing file found
  pub nodes_are : map tree l.nodes ≡ nodes_of found.statements
  pub small : sizes (trees l.nodes) ≤ length file
  pub fault_is : l.fault ≡ found.fault
