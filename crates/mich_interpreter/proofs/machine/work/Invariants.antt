use Rattle.std.proofs.Common.{◌+◌, ◌*◌, length}
use Rattle.mich_interpreter.proofs.Turned.{Kept}
use Rattle.mich_interpreter.proofs.machine.work.Given as goal

abbrev pub invariant-paid : goal.invariant-paid
invariant-paid l = Kept l.world l.costs l.fn.m l.m l.callers

abbrev pub decreases-paid : goal.decreases-paid
decreases-paid l = 2 * l.m.state.meter + length l.callers
