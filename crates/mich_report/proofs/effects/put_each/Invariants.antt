use Rattle.std.proofs.Common.{◌≡◌, ◌++◌, ◌∷◌, [], drop}
use Rattle.rules_text.specs.nodes.Tree.{trees_of}
use Rattle.mich_text.specs.Line.{joined}
use Rattle.mich_report.specs.Pieces.{separator}
use Rattle.mich_report.proofs.Loops.{effect_trees}
use Rattle.mich_report.proofs.effects.put_each.Given as goal

-- the line so far, and the effects that are left
abbrev pub invariant-effects : goal.invariant-effects
invariant-effects l =
    l.line.items ++ joined (separator l.begun) (trees_of (effect_trees (drop l.done-index l.done-items)))
    ≡ l.fn.line.items ++ joined (32 ∷ []) (trees_of (effect_trees l.effects))
