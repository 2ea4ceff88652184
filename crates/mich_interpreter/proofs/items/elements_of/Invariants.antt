use Rattle.std.proofs.Common.{◌≡◌, ◌++◌, map}
use Rattle.mich_stack.specs.Views.{Sight, seen}
use Rattle.mich_term.specs.View.{datum}
use Rattle.mich_interpreter.proofs.items.elements_of.Given as goal

abbrev pub invariant-loop-element : goal.invariant-loop-element
invariant-loop-element l = (big : Sight) → map (seen big) l.values ++ map datum l.element-iterator ≡ map datum l.set
