use Rattle.laws_commands.proofs.written_lemmas.Agreement.{runs_are_read}
use Rattle.laws_commands.proofs.written.runs_are_read.Goals as goal

pub returns : goal.returns
returns c = runs_are_read
