use Rattle.std.proofs.Common.{◌≡◌, length}
use Rattle.rules_data.specs.values.Val.{more_vals}
use Rattle.rules_files.specs.snapshots.Rules.{are_increasing}
use Rattle.mich_term.specs.View.{datum, datums}
use Rattle.mich_saved.proofs.collections.are_increasing.Given as goal

abbrev pub invariant-loop-element : goal.invariant-loop-element
invariant-loop-element l = are_increasing (more_vals (datum l.before) (datums l.left)) ≡ are_increasing (datums l.elements)

abbrev pub decreases-loop-element : goal.decreases-loop-element
decreases-loop-element l = length l.left
