use Rattle.std.proofs.Common.{◌≡◌, ◌++◌, drop, map}
use Rattle.rules_text.specs.nodes.Tree.{preorders}
use Rattle.rules_files.specs.snapshots.Spelling.{code_of_node}
use Rattle.mich_base.specs.View.{trees}
use Rattle.mich_saved.proofs.writing.+codes.Given as goal

-- what was written, and the codes of the nodes that are left
abbrev pub invariant-put_all_codes-loop-node : goal.invariant-put_all_codes-loop-node
invariant-put_all_codes-loop-node l =
    l.out.items ++ map code_of_node (preorders (trees (drop l.node-index l.node-items))) ≡ l.fn.out.items ++ map code_of_node (preorders (trees l.nodes))
