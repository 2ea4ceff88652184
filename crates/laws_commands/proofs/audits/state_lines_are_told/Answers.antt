use Rattle.laws_commands.proofs.audits_lemmas.States.{state_told}
use Rattle.laws_commands.proofs.audits.state_lines_are_told.Goals as goal

pub returns : goal.returns
returns c = state_told
