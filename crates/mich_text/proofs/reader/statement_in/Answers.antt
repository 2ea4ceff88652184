use Rattle.std.proofs.Common.{sym, ◌∙◌, arith}
use Rattle.mich_text.proofs.limits.Limits.{unlimited, up_to}
use Rattle.mich_text.proofs.reader.statement_in.Goals as goal

pub returns-then-left-eq0 : goal.returns-then-left-eq0
returns-then-left-eq0 c =
    unlimited c.args.before c.args.text.now c.statement_limit.result c.file_limit-file.result
    c.statement_limit.ensures.only c.file_limit-file.ensures.only
    (sym c.max-left.ensures ∙ c.if-left-eq0.true) c.statement_at.result c.statement_at.ensures

pub returns-else-left-eq0 : goal.returns-else-left-eq0
returns-else-left-eq0 c =
    c.statement_up_to.ensures c.args.before c.args.text.now
    (up_to c.args.before c.args.text.now c.statement_limit.result c.file_limit-file.result c.max-left.result c.statement_limit.ensures.only
    c.file_limit-file.ensures.only c.statement_limit.ensures.within c.file_limit-file.ensures.within c.max-left.ensures (omega (
      arith,
      c.if-left-eq0.false,
    )))
