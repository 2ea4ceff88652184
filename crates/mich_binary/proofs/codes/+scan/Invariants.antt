use Rattle.std.proofs.Common.{◌≡◌, ◌+◌, drop}
use Rattle.rules_text.specs.nodes.Tree.{sizes, preorders}
use Rattle.mich_base.specs.View.{trees}
use Rattle.mich_binary.specs.Scanning.{scanned}
use Rattle.mich_binary.proofs.codes.+scan.Given as goal

abbrev pub invariant-scan_all-loop-node : goal.invariant-scan_all-loop-node
invariant-scan_all-loop-node l = record {
  found : scanned l.at (preorders (trees l.nodes)) ≡ scanned l.next (preorders (trees (drop l.node-index l.node-items)));
  count : l.next + sizes (trees (drop l.node-index l.node-items)) ≡ l.at + sizes (trees l.nodes);
}
