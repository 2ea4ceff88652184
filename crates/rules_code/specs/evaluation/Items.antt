-- What ITER and MAP go over (Michelson reference, "Operations on lists", "Operations on sets", "Operations on maps" and
-- "Operations on optional values").
use Rattle.std.specs.Prelude.{List, [], ◌∷◌, Option, Some, None}
use Rattle.rules_data.specs.types.Kind.{Kind}
use Rattle.rules_data.specs.types.Kind as k
use Rattle.rules_data.specs.values.Val.{Val, Vals, no_val, more_vals, Pairs, no_pair, more_pairs}
use Rattle.rules_data.specs.values.Val as v

-- the type of the items, and the items in order
pub record Items : Type 0 where
  pub kind : Kind
  pub values : List Val

abbrev pub elements : Vals → List Val
elements no_val = []
elements (more_vals x xs) = x ∷ elements xs

abbrev pub entries : Pairs → List Val
entries no_pair = []
entries (more_pairs x y ps) = v.both x y ∷ entries ps

-- of ITER: the elements of a list or set, and the entries of a map as pairs
abbrev pub items : Kind → Val → Option Items
items (k.list a) (v.list xs) = Some (record { kind = a; values = elements xs })
items (k.set a) (v.set xs) = Some (record { kind = a; values = elements xs })
items (k.map a b) (v.table ps) = Some (record { kind = k.pair a b; values = entries ps })
items _ _ = None

-- of MAP: those of a list, of a map, and of an option
abbrev pub mapped_items : Kind → Val → Option Items
mapped_items (k.list a) (v.list xs) = Some (record { kind = a; values = elements xs })
mapped_items (k.map a b) (v.table ps) = Some (record { kind = k.pair a b; values = entries ps })
mapped_items (k.option a) (v.some x) = Some (record { kind = a; values = x ∷ [] })
mapped_items (k.option a) v.nothing = Some (record { kind = a; values = [] })
mapped_items _ _ = None

-- the type of a collection with other items
abbrev pub with_items : Kind → Kind → Kind
with_items (k.list a) c = k.list c
with_items (k.map a b) c = k.map a c
with_items (k.option a) c = k.option c
with_items a c = a

abbrev pub list_of : List Val → Vals
list_of [] = no_val
list_of (x ∷ xs) = more_vals x (list_of xs)

-- entries with the same keys and other values
abbrev pub with_values : Pairs → List Val → Pairs
with_values (more_pairs x y ps) (z ∷ zs) = more_pairs x z (with_values ps zs)
with_values _ _ = no_pair

-- the collection with the results in place of its items
abbrev pub rebuilt : Val → List Val → Val
rebuilt (v.list xs) ys = v.list (list_of ys)
rebuilt (v.table ps) ys = v.table (with_values ps ys)
rebuilt (v.some x) (y ∷ ys) = v.some y
rebuilt x ys = x
