use Rattle.mich_audit.proofs.OneVerdict.{one_verdict}
use Rattle.laws_commands.proofs.audits.one_verdict.Goals as goal

pub returns : goal.returns
returns c = one_verdict
