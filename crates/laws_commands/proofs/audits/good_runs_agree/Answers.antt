use Rattle.laws_commands.proofs.audits_lemmas.Runs.{good_runs_agree}
use Rattle.laws_commands.proofs.audits.good_runs_agree.Goals as goal

pub returns : goal.returns
returns c = good_runs_agree
