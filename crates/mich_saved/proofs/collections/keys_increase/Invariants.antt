use Rattle.std.proofs.Common.{◌≡◌, length}
use Rattle.rules_data.specs.values.Val.{more_vals}
use Rattle.rules_files.specs.snapshots.Rules.{are_increasing, keys}
use Rattle.mich_term.specs.View.{datum}
use Rattle.mich_term.specs.ValueView.{pairs}
use Rattle.mich_saved.proofs.collections.keys_increase.Given as goal

abbrev pub invariant-loop-entry : goal.invariant-loop-entry
invariant-loop-entry l = are_increasing (more_vals (datum l.before) (keys (pairs l.left))) ≡ are_increasing (keys (pairs l.entries))

abbrev pub decreases-loop-entry : goal.decreases-loop-entry
decreases-loop-entry l = length l.left
