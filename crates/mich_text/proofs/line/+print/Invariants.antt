use Rattle.std.proofs.Common.{◌≡◌, ◌++◌, ◌∷◌, [], drop}
use Rattle.mich_base.specs.View.{trees}
use Rattle.rules_text.specs.text.Printed.{arguments_text}
use Rattle.mich_text.specs.Line.{joined}
use Rattle.mich_text.proofs.line.+print.Given as goal

-- the line so far, and the arguments that are left
abbrev pub invariant-put_arguments-arguments : goal.invariant-put_arguments-arguments
invariant-put_arguments-arguments l = l.line.items ++ arguments_text (trees (drop l.node-index l.node-items)) ≡ l.fn.line.items ++ arguments_text (trees l.nodes)

-- the line so far, and the elements that are left
abbrev pub invariant-put_elements-elements : goal.invariant-put_elements-elements
invariant-put_elements-elements l = l.line.items ++ joined l.separator (trees (drop l.node-index l.node-items)) ≡ l.fn.line.items ++ joined (32 ∷ []) (trees l.nodes)
