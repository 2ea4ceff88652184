use Rattle.std.proofs.Common.{◌≡◌, ◌≤◌, ◌++◌, length, drop}
use Rattle.rules_text.specs.nodes.Limits.{encoded_limit}
use Rattle.rules_text.specs.binary.Spelling.{spellings}
use Rattle.mich_base.specs.View.{trees}
use Rattle.mich_binary.proofs.writing.+put.Given as goal

abbrev pub invariant-put_nodes-loop-node : goal.invariant-put_nodes-loop-node
invariant-put_nodes-loop-node l = record {
  parts : l.out.items ++ spellings (trees (drop l.node-index l.node-items)) ≡ l.initial.out.items ++ spellings (trees l.nodes);
  room : length l.out.items ≤ encoded_limit;
}
