use Rattle.laws_commands.proofs.audits_lemmas.Judged.{lines_agree}
use Rattle.laws_commands.proofs.audits.ticket_lines_agree.Goals as goal

pub returns : goal.returns
returns c = lines_agree
