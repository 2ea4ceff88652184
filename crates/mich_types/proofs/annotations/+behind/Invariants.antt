use Rattle.std.proofs.Common.{◌≡◌, ◌+◌, drop}
use Rattle.rules_text.specs.nodes.Tree.{sizes}
use Rattle.mich_base.specs.View.{trees}
use Rattle.mich_types.proofs.annotations.+behind.Given as goal

abbrev pub invariant-behind_all-loop-node : goal.invariant-behind_all-loop-node
invariant-behind_all-loop-node l = l.next + sizes (trees (drop l.node-index l.node-items)) ≡ l.fn.at + sizes (trees l.fn.nodes)
