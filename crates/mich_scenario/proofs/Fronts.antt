-- Fields of which the last are taken.
use Rattle.std.proofs.Common.{◌≡◌, ℕ, List, [], ◌∷◌, ◌++◌, Option, refl, ap, sym, ◌∙◌, append_assoc}
use Rattle.rules_text.specs.nodes.Tree.{Tree}
use Rattle.rules_world.specs.world.Contents as rules
use Rattle.rules_files.specs.statements.Statements.{content_by, nodes_of}
use Rattle.mich_base.specs.View.{tree, trees}
use Rattle.mich_base.specs.declared.node.Node.{Node}

-- one behind others
pub last_node : (front : List Node) (x : Node) → nodes_of (trees (front ++ x ∷ [])) ≡ nodes_of (trees front) ++ tree x ∷ []
last_node [] x = refl
last_node (n ∷ ns) x = ap (λ (ts : List Tree). tree n ∷ ts) (last_node ns x)

-- two behind others
pub last_two : (fields kept front : List Node) (x y : Node) → fields ≡ kept ++ y ∷ [] → kept ≡ front ++ x ∷ []
    → nodes_of (trees fields) ≡ nodes_of (trees front) ++ tree x ∷ tree y ∷ []
last_two fields kept front x y second first =
    ap (λ (ns : List Node). nodes_of (trees ns)) second ∙ last_node kept y
    ∙ ap (λ (ns : List Node). nodes_of (trees ns) ++ tree y ∷ []) first
    ∙ ap (λ (ts : List Tree). ts ++ tree y ∷ []) (last_node front x)
    ∙ append_assoc (nodes_of (trees front)) (tree x ∷ []) (tree y ∷ [])

pub last_one : (fields front : List Node) (x : Node) → fields ≡ front ++ x ∷ [] → nodes_of (trees fields) ≡ nodes_of (trees front) ++ tree x ∷ []
last_one fields front x first = ap (λ (ns : List Node). nodes_of (trees ns)) first ∙ last_node front x

-- what is read of fields of which the last one or two are taken
pub one_kept : (name : List ℕ) (fields front : List Node) (x : Node) (whole : Option rules.Content) → fields ≡ front ++ x ∷ []
    → whole ≡ content_by name (nodes_of (trees front) ++ tree x ∷ []) → whole ≡ content_by name (nodes_of (trees fields))
one_kept name fields front x whole first h = h ∙ ap (content_by name) (sym (last_one fields front x first))

pub two_kept : (name : List ℕ) (fields kept front : List Node) (x y : Node) (whole : Option rules.Content) → fields ≡ kept ++ y ∷ [] → kept ≡ front ++ x ∷ []
    → whole ≡ content_by name (nodes_of (trees front) ++ tree x ∷ tree y ∷ []) → whole ≡ content_by name (nodes_of (trees fields))
two_kept name fields kept front x y whole second first h = h ∙ ap (content_by name) (sym (last_two fields kept front x y second first))
