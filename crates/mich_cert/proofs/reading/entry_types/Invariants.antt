use Rattle.std.proofs.Common.{◌≡◌, ◌≤◌, true, drop}
use Rattle.std.specs.List.{list_all}
use Rattle.rules_text.specs.nodes.Tree.{sizes}
use Rattle.rules_code.specs.typing.Scripts.{is_small}
use Rattle.mich_base.specs.View.{trees}
use Rattle.mich_cert.specs.View.{kinds}
use Rattle.mich_cert.proofs.Listing.{types_before}
use Rattle.mich_cert.proofs.reading.entry_types.Given as goal

abbrev pub invariant-loop-node : goal.invariant-loop-node
invariant-loop-node l = record {
  same : types_before (kinds l.types) (trees (drop l.node-index l.node-items)) ≡ trees l.nodes;
  small : list_all is_small (kinds l.types) ≡ true;
  room : sizes (trees (drop l.node-index l.node-items)) ≤ sizes (trees l.nodes);
}
