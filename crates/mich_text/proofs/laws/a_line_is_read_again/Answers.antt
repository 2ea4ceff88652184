use Rattle.mich_text.proofs.printed.WrittenLines.{can_be_written, written_again, written_in_line}
use Rattle.mich_text.proofs.laws.a_line_is_read_again.Goals as goal

pub returns-clause-forms : goal.returns-clause-forms
returns-clause-forms c = can_be_written

pub returns-clause-again : goal.returns-clause-again
returns-clause-again c = written_again

pub returns-clause-one_line : goal.returns-clause-one_line
returns-clause-one_line c = written_in_line
