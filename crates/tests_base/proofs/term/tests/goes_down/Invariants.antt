use Rattle.std.proofs.Common.{length}
use Rattle.tests_base.proofs.term.tests.goes_down.Given as goal

abbrev pub decreases-loop-value : goal.decreases-loop-value
decreases-loop-value l = length l.list
