-- One more node of a list that is searched in pre-order.
use Rattle.std.proofs.Common.{◌≡◌, ℕ, ◌+◌, ◌<◌, List, ◌∷◌, length, get_or, drop, sym, ap, ◌∙◌}
use Rattle.std.proofs.lemmas.List.{at_drop_more}
use Rattle.rules_text.specs.nodes.Tree.{preorder, preorders}
use Rattle.mich_base.specs.Walk.{look}
use Rattle.mich_base.specs.View.{tree, trees}
use Rattle.mich_base.specs.declared.node.Node.{Node}
use Rattle.mich_base.proofs.Look.{onward, look_append}

pub look_more : (xs : List Node) (i : ℕ) (x : Node) (k : ℕ) → i < length xs → x ≡ get_or xs i x
    → look (preorders (trees (drop i xs))) k ≡ onward (preorders (trees (drop (i + 1) xs))) (look (preorder (tree x)) k)
look_more xs i x k h e =
    at_drop_more (λ ns. look (preorders (trees ns)) k) xs i x h ∙ ap (λ y. look (preorders (trees (y ∷ drop (i + 1) xs))) k) (sym e) ∙ look_append (preorder (tree x)) (preorders (trees (drop (i + 1) xs))) k
