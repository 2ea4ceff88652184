-- The tree that a `Node` stands for.
use Rattle.std.specs.Prelude.{List, map, ℕ, ◌⊎◌}
use Rattle.std.proofs.Common.{inl, inr}
use Rattle.rules_text.specs.nodes.Tree.{Tree, int, str, bytes, prim, seq, Trees, trees_of}
use Rattle.mich_base.specs.declared.node.Node.{Node, fold-Node}
use Rattle.mich_base.specs.declared.node.App.{App, fold-App}
use Rattle.mich_base.specs.declared.node.Found.{Found}
use Rattle.mich_base.specs.declared.node.Found.TheVariants.{Here, Past}
use Rattle.mich_base.specs.declared.node.Node.TheOpen.{Node-F, App-F}

-- one level, with each node inside already seen as its tree
abbrev pub app_step : App-F Tree Tree → Tree
app_step app = prim app.name app.annots (trees_of app.args)

abbrev pub node_step : Node-F Tree Tree → Tree
node_step (Node-F.Int n) = int n
node_step (Node-F.Str s) = str s
node_step (Node-F.Bytes b) = bytes b
node_step (Node-F.Prim app) = app
node_step (Node-F.Seq ns) = seq (trees_of ns)

abbrev pub tree : Node → Tree
tree = fold-Node Tree Tree node_step app_step

abbrev pub app_tree : App → Tree
app_tree = fold-App Tree Tree node_step app_step

abbrev pub trees : List Node → Trees
trees ns = trees_of (map tree ns)

abbrev pub seen : Found → Tree ⊎ ℕ
seen (Here n) = inl (tree n.now)
seen (Past k) = inr k
