use Rattle.std.proofs.Common.{◌≡◌, ◌++◌, ◌∷◌, [], drop}
use Rattle.rules_text.specs.nodes.Tree.{trees_of}
use Rattle.mich_text.specs.Line.{joined}
use Rattle.mich_report.specs.Pieces.{separator}
use Rattle.mich_report.proofs.Loops.{status_trees}
use Rattle.mich_report.proofs.receipts.put_each.Given as goal

-- the line so far, and the statuses that are left
abbrev pub invariant-statuses : goal.invariant-statuses
invariant-statuses l =
    l.line.items ++ joined (separator l.begun) (trees_of (status_trees (drop l.found-index l.found-items)))
    ≡ l.fn.line.items ++ joined (32 ∷ []) (trees_of (status_trees l.statuses))
