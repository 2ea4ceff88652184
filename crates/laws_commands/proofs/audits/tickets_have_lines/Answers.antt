use Rattle.laws_commands.proofs.audits_lemmas.Judged.{have_lines}
use Rattle.laws_commands.proofs.audits.tickets_have_lines.Goals as goal

pub returns : goal.returns
returns c = have_lines
