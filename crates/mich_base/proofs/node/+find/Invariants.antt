use Rattle.std.proofs.Common.{◌≡◌, drop}
use Rattle.rules_text.specs.nodes.Tree.{preorders}
use Rattle.mich_base.specs.Walk.{look}
use Rattle.mich_base.specs.View.{trees}
use Rattle.mich_base.proofs.node.+find.Given as goal

abbrev pub invariant-find_in-loop-node : goal.invariant-find_in-loop-node
invariant-find_in-loop-node l =
    look (preorders (trees l.nodes)) l.place ≡ look (preorders (trees (drop l.node-index l.node-items))) l.left
