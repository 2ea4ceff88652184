use Rattle.std.proofs.Common.{inl, inr, arith}
use Rattle.mich_text.proofs.limits.Alone.{past_none, no_limit}
use Rattle.mich_text.proofs.reader.read_alone.Goals as goal

pub returns-then-statement-gt0 : goal.returns-then-statement-gt0
returns-then-statement-gt0 c = λ t. past_none c.args.text.now t c.statement_limit-statement.result (inl (c.statement_limit-statement.ensures.only.0 (omega (arith, c.if-statement-gt0.true))))

pub returns-then-file-gt0 : goal.returns-then-file-gt0
returns-then-file-gt0 c = λ t. past_none c.args.text.now t c.file_limit-file.result (inr (c.file_limit-file.ensures.only.0 (omega (arith, c.if-file-gt0.true))))

pub returns : goal.returns
returns c =
    c.alone.ensures c.args.text.now
    (no_limit c.args.text.now c.statement_limit-statement.result c.file_limit-file.result c.statement_limit-statement.ensures.only c.file_limit-file.ensures.only
    (omega (arith, c.if-statement-gt0.false)) (omega (arith, c.if-file-gt0.false)))
    c.statement_at.ensures
