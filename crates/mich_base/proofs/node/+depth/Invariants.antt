use Rattle.std.proofs.Common.{◌≡◌, nat_le, drop}
use Rattle.rules_text.specs.nodes.Tree.{depths}
use Rattle.mich_base.specs.View.{trees}
use Rattle.mich_base.proofs.node.+depth.Given as goal

abbrev pub invariant-depths_within-loop-node : goal.invariant-depths_within-loop-node
invariant-depths_within-loop-node l =
    nat_le (depths (trees (drop l.node-index l.node-items))) l.limit ≡ nat_le (depths (trees l.nodes)) l.limit
