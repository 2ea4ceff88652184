use Rattle.std.proofs.Common.{◌≡◌, ◌++◌}
use Rattle.mich_term.proofs.value.shadow_changes.Given as goal

abbrev pub invariant-loop-key : goal.invariant-loop-key
invariant-loop-key l = l.copies.items ++ l.key-iterator ≡ l.changes
