use Rattle.std.proofs.Common.{◌≡◌, ◌≤◌, drop}
use Rattle.rules_text.specs.nodes.Tree.{sizes}
use Rattle.rules_files.specs.snapshots.Reading.{first_storage}
use Rattle.mich_base.specs.View.{trees}
use Rattle.mich_saved.proofs.storage.storage_section.Given as goal

abbrev pub invariant-loop-node : goal.invariant-loop-node
invariant-loop-node l = record {
  same : first_storage (trees (drop l.node-index l.node-items)) ≡ first_storage (trees l.nodes);
  within : sizes (trees (drop l.node-index l.node-items)) ≤ sizes (trees l.nodes);
}
