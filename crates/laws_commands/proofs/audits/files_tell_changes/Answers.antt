use Rattle.laws_commands.proofs.audits_lemmas.FileLogs.{files_tell}
use Rattle.laws_commands.proofs.audits.files_tell_changes.Goals as goal

pub returns : goal.returns
returns c = files_tell
