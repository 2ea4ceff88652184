use Rattle.laws_commands.proofs.written_lemmas.Agreement.{read_runs_agree}
use Rattle.laws_commands.proofs.written.read_runs_agree.Goals as goal

pub returns : goal.returns
returns c = read_runs_agree
