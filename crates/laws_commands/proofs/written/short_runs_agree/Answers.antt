use Rattle.laws_commands.proofs.written_lemmas.Agreement.{short_runs_agree}
use Rattle.laws_commands.proofs.written.short_runs_agree.Goals as goal

pub returns : goal.returns
returns c = short_runs_agree
