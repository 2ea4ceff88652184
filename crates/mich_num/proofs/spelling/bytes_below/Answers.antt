use Rattle.mich_num.proofs.WriteBytes.{held, found_at, goes_on, at_end}
use Rattle.mich_num.proofs.spelling.bytes_below.Goals as goal

pub returns-then-number-k-eq0-clause-is_least : goal.returns-then-number-k-eq0-clause-is_least
returns-then-number-k-eq0-clause-is_least c = found_at c.args.number c.loop-k.k c.loop-k-test.true c.loop-k.invariant c.if-number-k-eq0.true

pub returns-then-number-k-eq0-clause-held : goal.returns-then-number-k-eq0-clause-held
returns-then-number-k-eq0-clause-held c = held c.args.number c.loop-k.k c.if-number-k-eq0.true

pub loop-k-preserved : goal.loop-k-preserved
loop-k-preserved c = goes_on c.args.number c.loop-k.k c.loop-k-test.true c.loop-k.invariant c.if-number-k-eq0.false

pub returns-clause-is_least : goal.returns-clause-is_least
returns-clause-is_least c = at_end c.args.number c.loop-k.k c.loop-k-test.false c.loop-k.auto.k-end c.loop-k.invariant
