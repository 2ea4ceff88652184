use Rattle.std.proofs.Common.{◌≡◌, drop}
use Rattle.rules_text.specs.nodes.Tree.{sizes}
use Rattle.mich_base.specs.Walk.{room_left}
use Rattle.mich_base.specs.View.{trees}
use Rattle.mich_base.proofs.node.+size.Given as goal

abbrev pub invariant-room_after_all-loop-node : goal.invariant-room_after_all-loop-node
invariant-room_after_all-loop-node l =
    room_left (sizes (trees l.nodes)) l.room ≡ room_left (sizes (trees (drop l.node-index l.node-items))) l.left
