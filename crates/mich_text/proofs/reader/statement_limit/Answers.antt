use Rattle.std.proofs.Common.{sym, arith}
use Rattle.mich_text.proofs.tokens.Gaps.{gap_le}
use Rattle.mich_text.proofs.reader.statement_limit.Goals as goal

pub returns-in-Some-clause-within : goal.returns-in-Some-clause-within
returns-in-Some-clause-within c = omega (arith, gap_le c.args.text.now c.in-Some.first.now (sym c.in-Some.ensures))
