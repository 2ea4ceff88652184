use Rattle.laws_commands.proofs.audits_lemmas.Judged.{told_agree}
use Rattle.laws_commands.proofs.audits.told_lines_agree.Goals as goal

pub returns : goal.returns
returns c = told_agree
