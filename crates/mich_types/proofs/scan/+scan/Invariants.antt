use Rattle.std.proofs.Common.{◌≡◌, ◌+◌, drop, Ok}
use Rattle.rules_text.specs.nodes.Tree.{sizes}
use Rattle.mich_base.specs.View.{trees}
use Rattle.mich_types.specs.Scanned.{chained, scans}
use Rattle.mich_types.proofs.scan.+scan.Given as goal

abbrev pub invariant-scan_pair-loop-node : goal.invariant-scan_pair-loop-node
invariant-scan_pair-loop-node l =
    let left = trees (drop l.node-index l.rest) in
    (chained (Ok l.whole.summary) (scans l.whole.next left) ≡ chained (Ok l.initial.whole.summary) (scans l.initial.whole.next (trees l.rest)))
    × (l.whole.next + sizes left ≡ l.initial.whole.next + sizes (trees l.rest))
