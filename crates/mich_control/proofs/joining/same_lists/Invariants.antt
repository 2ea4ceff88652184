use Rattle.std.proofs.Common.{◌≡◌, take, length}
use Rattle.mich_control.proofs.joining.same_lists.Given as goal

abbrev pub invariant-loop-i : goal.invariant-loop-i
invariant-loop-i l = (take l.i l.types ≡ take l.i l.others) × (length l.types ≡ length l.others)
