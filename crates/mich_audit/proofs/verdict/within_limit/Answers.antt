use Rattle.std.proofs.Common.{sym, arith, length-take-le}
use Rattle.std.proofs.lemmas.List.{take_all}
use Rattle.mich_audit.proofs.verdict.within_limit.Goals as goal

pub slice_bounds-result-end : goal.slice_bounds-result-end
slice_bounds-result-end c = sym (length-take-le 1073741823 c.args.bytes.now (omega (arith, c.if-bytes-gt-AUDIT_LIMIT.true)))

pub returns-else-bytes-gt-AUDIT_LIMIT : goal.returns-else-bytes-gt-AUDIT_LIMIT
returns-else-bytes-gt-AUDIT_LIMIT c = sym (take_all 1073741823 c.args.bytes.now c.if-bytes-gt-AUDIT_LIMIT.false)
