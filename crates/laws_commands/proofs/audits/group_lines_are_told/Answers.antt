use Rattle.laws_commands.proofs.audits_lemmas.Groups.{group_lines_told}
use Rattle.laws_commands.proofs.audits.group_lines_are_told.Goals as goal

pub returns : goal.returns
returns c = group_lines_told
