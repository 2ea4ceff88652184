-- The literals of elements and entries, as lists of nodes.
use Rattle.std.specs.Prelude.{List, [], ◌∷◌, codes}
use Rattle.rules_text.specs.nodes.Tree.{Tree}
use Rattle.rules_data.specs.values.Val.{Val, Vals, no_val, more_vals, Pairs, no_pair, more_pairs}
use Rattle.rules_data.specs.values.Canonical.{canonical, over_two}

-- the literals of elements
abbrev pub element_trees : Vals → List Tree
element_trees no_val = []
element_trees (more_vals v vs) = canonical v ∷ element_trees vs

-- the literal of an entry
abbrev pub entry_tree : Val → Val → Tree
entry_tree k v = over_two (codes "Elt") (canonical k) (canonical v)

-- the literals of entries
abbrev pub entry_trees : Pairs → List Tree
entry_trees no_pair = []
entry_trees (more_pairs k v es) = entry_tree k v ∷ entry_trees es
