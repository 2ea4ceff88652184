use Rattle.std.proofs.Common.{◌≡◌, ◌≤◌, drop}
use Rattle.rules_text.specs.nodes.Tree.{sizes}
use Rattle.mich_base.specs.View.{trees}
use Rattle.mich_cert.specs.Entries.{all_entries}
use Rattle.mich_cert.proofs.Listing.{entries_before}
use Rattle.mich_cert.proofs.reading.read_entries.Given as goal

abbrev pub invariant-loop-node : goal.invariant-loop-node
invariant-loop-node l = record {
  same : entries_before (all_entries l.entries) (trees (drop l.node-index l.node-items)) ≡ trees l.nodes;
  room : sizes (trees (drop l.node-index l.node-items)) ≤ sizes (trees l.nodes);
}
