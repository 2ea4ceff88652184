use Rattle.laws_commands.proofs.audits_lemmas.Lines.{line_read}
use Rattle.laws_commands.proofs.audits.printed_lines_are_read.Goals as goal

pub returns : goal.returns
returns c = line_read
