use Rattle.std.proofs.Common.{◌≡◌, ◌+◌, drop}
use Rattle.rules_text.specs.nodes.Tree.{sizes}
use Rattle.rules_code.specs.typing.Nodes.{sections}
use Rattle.rules_code.specs.typing.Sections.{no_contents, with_sections}
use Rattle.mich_base.specs.View.{trees}
use Rattle.mich_outline.specs.Named.{IsNaming}
use Rattle.mich_outline.specs.View.{contents_of}
use Rattle.mich_outline.proofs.gathering.read_sections.Given as goal

abbrev pub invariant-loop-node : goal.invariant-loop-node
invariant-loop-node l = record {
  same : with_sections no_contents (sections (trees l.fn.nodes) l.fn.at) ≡ with_sections (contents_of l.contents) (sections (trees (drop l.node-index l.node-items)) l.next);
  naming : IsNaming l.contents.views l.contents.names;
  room : l.next + sizes (trees (drop l.node-index l.node-items)) ≡ l.fn.at + sizes (trees l.fn.nodes);
}
