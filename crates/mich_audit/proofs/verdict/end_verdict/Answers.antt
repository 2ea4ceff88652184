use Rattle.std.proofs.Common.{◌+◌, length, inl, inr, ap, arith}
use Rattle.rules_audit.specs.Form.{bad_form}
use Rattle.rules_audit.specs.Verdicts.{is_bad_form}
use Rattle.mich_audit.proofs.Pieces.{end_bad, some_bytes}
use Rattle.mich_audit.proofs.verdict.end_verdict.Goals as goal

pub returns-then-longer : goal.returns-then-longer
returns-then-longer c = λ before it none.
    (bad_form (length before + 1), end_bad before c.args.longer c.args.rest.now none (inl c.if-longer.true), ap (λ n. is_bad_form (n + 1)) it.count)

pub returns-else-is_empty : goal.returns-else-is_empty
returns-else-is_empty c = λ before it none.
    (bad_form (length before + 1), end_bad before c.args.longer c.args.rest.now none (inr (some_bytes c.args.rest.now c.is_empty.result c.is_empty.ensures c.if-is_empty.false)), ap (λ n. is_bad_form (n + 1)) it.count)
