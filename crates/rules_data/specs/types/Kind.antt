-- The types of Michelson (Michelson reference, "Types").
use Rattle.std.specs.Prelude.{ℕ, ◌+◌}
use Rattle.rules_data.specs.declared.types.Simple.{Simple}

-- a type; a pair of more parts is a pair whose second part is the pair of the others
pub data Kind : Type 0 where
  simple : Simple → Kind
  operation : Kind
  option : Kind → Kind
  or : Kind → Kind → Kind
  pair : Kind → Kind → Kind
  list : Kind → Kind
  set : Kind → Kind
  map : Kind → Kind → Kind
  big_map : Kind → Kind → Kind
  lambda : Kind → Kind → Kind
  contract : Kind → Kind
  ticket : Kind → Kind

-- the number of nodes of a type
abbrev pub nodes : Kind → ℕ
nodes (simple s) = 1
nodes operation = 1
nodes (option a) = nodes a + 1
nodes (or a b) = nodes a + nodes b + 1
nodes (pair a b) = nodes a + nodes b + 1
nodes (list a) = nodes a + 1
nodes (set a) = nodes a + 1
nodes (map a b) = nodes a + nodes b + 1
nodes (big_map a b) = nodes a + nodes b + 1
nodes (lambda a b) = nodes a + nodes b + 1
nodes (contract a) = nodes a + 1
nodes (ticket a) = nodes a + 1
