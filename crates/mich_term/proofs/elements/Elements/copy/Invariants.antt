use Rattle.std.proofs.Common.{◌≡◌, ◌++◌}
use Rattle.mich_term.proofs.elements.Elements.copy.Given as goal

abbrev pub invariant-loop-element : goal.invariant-loop-element
invariant-loop-element l = l.copies ++ l.element-iterator ≡ l.self
