use Rattle.std.proofs.Common.{◌≡◌, reverse, take}
use Rattle.mich_term.proofs.value.shadow_all.Given as goal

abbrev pub invariant-loop-value : goal.invariant-loop-value
invariant-loop-value l = l.copies ≡ reverse (take l.value-index l.value-items)
