use Rattle.laws_commands.proofs.audits_lemmas.Logs.{receipts_tell}
use Rattle.laws_commands.proofs.audits.receipts_tell_changes.Goals as goal

pub returns : goal.returns
returns c = receipts_tell
