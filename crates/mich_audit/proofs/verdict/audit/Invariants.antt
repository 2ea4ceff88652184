use Rattle.std.proofs.Common.{length}
use Rattle.mich_audit.proofs.Pieces.{Reaches}
use Rattle.mich_audit.proofs.verdict.audit.Given as goal

-- the lines so far were taken
abbrev pub invariant-lines : goal.invariant-lines
invariant-lines l = Reaches l.bytes l.rest l.tally

abbrev pub decreases-lines : goal.decreases-lines
decreases-lines l = length l.rest
