use Rattle.std.proofs.Common.{◌≡◌, ◌+◌, length, drop}
use Rattle.rules_text.specs.text.Printed.{arguments_text, elements_text}
use Rattle.mich_base.specs.View.{trees}
use Rattle.mich_cert.proofs.telling.length.+measure.Given as goal

abbrev pub invariant-behind_arguments-loop-node : goal.invariant-behind_arguments-loop-node
invariant-behind_arguments-loop-node l = l.left + length (arguments_text (trees l.nodes)) ≡ l.fn.room + length (arguments_text (trees (drop l.node-index l.node-items)))

abbrev pub invariant-behind_elements-loop-node : goal.invariant-behind_elements-loop-node
invariant-behind_elements-loop-node l = l.left + length (elements_text (trees l.nodes)) ≡ l.fn.room + length (elements_text (trees (drop l.node-index l.node-items)))
