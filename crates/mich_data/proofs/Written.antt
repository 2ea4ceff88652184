-- Elements and entries that are written one after another.
use Rattle.std.proofs.Common.{◌≡◌, List, [], ◌∷◌, ◌++◌, map, refl, sym, ap, ◌∙◌, append_assoc, append-nil}
use Rattle.rules_text.specs.nodes.Tree.{Tree, Trees, more, seq, trees_of}
use Rattle.rules_data.specs.values.Val.{Vals, no_val, more_vals, Pairs, no_pair, more_pairs}
use Rattle.rules_data.specs.values.Canonical.{canonical, canonicals, canonical_entries}
use Rattle.mich_base.specs.View.{tree, trees}
use Rattle.mich_base.specs.declared.node.Node.{Node}
use Rattle.mich_data.specs.Written.{element_trees, entry_tree, entry_trees}

map-one : (nodes : List Node) (n : Node) → map tree (nodes ++ n ∷ []) ≡ map tree nodes ++ tree n ∷ []
map-one [] n = refl
map-one (m ∷ ms) n = ap (λ (ts : List Tree). tree m ∷ ts) (map-one ms n)

-- one more node is written
pub one_written : (nodes : List Node) (n : Node) (t : Tree) (rest all : List Tree) → tree n ≡ t → map tree nodes ++ t ∷ rest ≡ all → map tree (nodes ++ n ∷ []) ++ rest ≡ all
one_written nodes n t rest all e h =
    ap (λ (ts : List Tree). ts ++ rest) (map-one nodes n) ∙ append_assoc (map tree nodes) (tree n ∷ []) rest
    ∙ ap (λ (x : Tree). map tree nodes ++ x ∷ rest) e ∙ h

elements-trees : (vs : Vals) → trees_of (element_trees vs) ≡ canonicals vs
elements-trees no_val = refl
elements-trees (more_vals v vs) = ap (λ (ts : Trees). more (canonical v) ts) (elements-trees vs)

entries-trees : (es : Pairs) → trees_of (entry_trees es) ≡ canonical_entries es
entries-trees no_pair = refl
entries-trees (more_pairs k v es) = ap (λ (ts : Trees). more (entry_tree k v) ts) (entries-trees es)

-- all elements are written
pub elements_written : (nodes : List Node) (vs : Vals) → map tree nodes ++ [] ≡ element_trees vs → seq (trees nodes) ≡ seq (canonicals vs)
elements_written nodes vs h = ap (λ (ts : List Tree). seq (trees_of ts)) (sym (append-nil (map tree nodes)) ∙ h) ∙ ap seq (elements-trees vs)

-- all elements of a list are written, from its end to its head
pub list_written : (nodes rows : List Node) (vs : Vals) → rows ≡ nodes → map tree nodes ≡ element_trees vs → seq (trees rows) ≡ seq (canonicals vs)
list_written nodes rows vs e h = ap (λ (ns : List Node). seq (trees ns)) e ∙ ap (λ (ts : List Tree). seq (trees_of ts)) h ∙ ap seq (elements-trees vs)

-- all entries are written
pub entries_written : (nodes : List Node) (es : Pairs) → map tree nodes ++ [] ≡ entry_trees es → seq (trees nodes) ≡ seq (canonical_entries es)
entries_written nodes es h = ap (λ (ts : List Tree). seq (trees_of ts)) (sym (append-nil (map tree nodes)) ∙ h) ∙ ap seq (entries-trees es)
