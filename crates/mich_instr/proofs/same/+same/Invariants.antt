use Rattle.std.proofs.Common.{◌≡◌, take}
use Rattle.mich_instr.proofs.same.+same.Given as goal

abbrev pub invariant-same_nodes-loop-i : goal.invariant-same_nodes-loop-i
invariant-same_nodes-loop-i l = take l.i l.a ≡ take l.i l.b
