-- The attributes of types (Michelson reference, "Types"). Where parts decide, a type has an attribute where all its parts have it.
use Rattle.std.specs.Prelude.{Bool, true, false, ◌&&◌}
use Rattle.rules_data.specs.types.Kind.{Kind, simple, operation, option, or, pair, list, set, map, big_map, lambda, contract, ticket}

-- whether values of the type can be compared, as keys and elements of sets are (Michelson reference, "Comparable types").
abbrev pub comparable : Kind → Bool
comparable (simple s) = true
comparable (option a) = comparable a
comparable (or a b) = comparable a && comparable b
comparable (pair a b) = comparable a && comparable b
comparable (list a) = false
comparable (set a) = false
comparable (map a b) = false
comparable (big_map a b) = false
comparable (lambda a b) = false
comparable (contract a) = false
comparable operation = false
comparable (ticket a) = false

-- whether values of the type can be handed to a contract (Michelson reference, "Passable types").
abbrev pub passable : Kind → Bool
passable (simple s) = true
passable (option a) = passable a
passable (or a b) = passable a && passable b
passable (pair a b) = passable a && passable b
passable (list a) = passable a
passable (set a) = passable a
passable (map a b) = passable a && passable b
passable (big_map a b) = passable a && passable b
passable (lambda a b) = true
passable (contract a) = true
passable operation = false
passable (ticket a) = true

-- whether values of the type can be stored (Michelson reference, "Storable types").
abbrev pub storable : Kind → Bool
storable (simple s) = true
storable (option a) = storable a
storable (or a b) = storable a && storable b
storable (pair a b) = storable a && storable b
storable (list a) = storable a
storable (set a) = storable a
storable (map a b) = storable a && storable b
storable (big_map a b) = storable a && storable b
storable (lambda a b) = true
storable (contract a) = false
storable operation = false
storable (ticket a) = true

-- whether values of the type can be written as literals in code (Michelson reference, "Pushable types").
abbrev pub pushable : Kind → Bool
pushable (simple s) = true
pushable (option a) = pushable a
pushable (or a b) = pushable a && pushable b
pushable (pair a b) = pushable a && pushable b
pushable (list a) = pushable a
pushable (set a) = pushable a
pushable (map a b) = pushable a && pushable b
pushable (big_map a b) = false
pushable (lambda a b) = true
pushable (contract a) = false
pushable operation = false
pushable (ticket a) = false

-- whether values of the type can be serialized (Michelson reference, "Packable types").
abbrev pub packable : Kind → Bool
packable (simple s) = true
packable (option a) = packable a
packable (or a b) = packable a && packable b
packable (pair a b) = packable a && packable b
packable (list a) = packable a
packable (set a) = packable a
packable (map a b) = packable a && packable b
packable (big_map a b) = false
packable (lambda a b) = true
packable (contract a) = true
packable operation = false
packable (ticket a) = false

-- whether values of the type can be values of a big map (Michelson reference, "Big map value types").
abbrev pub big_value : Kind → Bool
big_value (simple s) = true
big_value (option a) = big_value a
big_value (or a b) = big_value a && big_value b
big_value (pair a b) = big_value a && big_value b
big_value (list a) = big_value a
big_value (set a) = big_value a
big_value (map a b) = big_value a && big_value b
big_value (big_map a b) = false
big_value (lambda a b) = true
big_value (contract a) = false
big_value operation = false
big_value (ticket a) = true

-- whether values of the type can be copied (Michelson reference, "Duplicable types").
abbrev pub duplicable : Kind → Bool
duplicable (simple s) = true
duplicable (option a) = duplicable a
duplicable (or a b) = duplicable a && duplicable b
duplicable (pair a b) = duplicable a && duplicable b
duplicable (list a) = duplicable a
duplicable (set a) = duplicable a
duplicable (map a b) = duplicable a && duplicable b
duplicable (big_map a b) = duplicable a && duplicable b
duplicable (lambda a b) = true
duplicable (contract a) = true
duplicable operation = true
duplicable (ticket a) = false
