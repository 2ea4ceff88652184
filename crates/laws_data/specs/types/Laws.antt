-- Types whose arguments have the attributes that they must have, and the laws of reading them (Michelson reference, "Types").
use Rattle.std.specs.Prelude.{◌≡◌, ◌≤◌, ℕ, true}
use Rattle.rules_text.specs.nodes.Limits.{type_limit}
use Rattle.rules_text.specs.nodes.Tree.{Tree}
use Rattle.rules_data.specs.types.Kind.{Kind, simple, operation, option, or, pair, list, set, map, big_map, lambda, contract, ticket, nodes}
use Rattle.rules_data.specs.types.Attributes.{comparable, passable, big_value}
use Rattle.rules_data.specs.types.Reading.{a_type, type_at}
use Rattle.rules_data.specs.types.Printing.{node_of}

abbrev pub IsWellFormed : Kind → Type 0
IsWellFormed (simple s) = Unit {0}
IsWellFormed operation = Unit {0}
IsWellFormed (option a) = IsWellFormed a
IsWellFormed (or a b) = IsWellFormed a × IsWellFormed b
IsWellFormed (pair a b) = IsWellFormed a × IsWellFormed b
IsWellFormed (list a) = IsWellFormed a
IsWellFormed (set a) = (comparable a ≡ true) × IsWellFormed a
IsWellFormed (map a b) = (comparable a ≡ true) × IsWellFormed a × IsWellFormed b
IsWellFormed (big_map a b) = (comparable a ≡ true) × (big_value b ≡ true) × IsWellFormed a × IsWellFormed b
IsWellFormed (lambda a b) = IsWellFormed a × IsWellFormed b
IsWellFormed (contract a) = (passable a ≡ true) × IsWellFormed a
IsWellFormed (ticket a) = (comparable a ≡ true) × IsWellFormed a

-- a well formed type within the limit is read, at each location, from the node that is written for it
abbrev pub AreRead : Type 0
AreRead = (a : Kind) (at : ℕ) → IsWellFormed a → nodes a ≤ type_limit → type_at at (node_of a) ≡ a_type a

-- what is read at some location is well formed and within the limit
abbrev pub WellFormed : Type 0
WellFormed = (at : ℕ) (t : Tree) (a : Kind) → type_at at t ≡ a_type a → IsWellFormed a × (nodes a ≤ type_limit)
