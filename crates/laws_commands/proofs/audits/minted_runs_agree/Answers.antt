use Rattle.laws_commands.proofs.audits_lemmas.Plain.{minted_runs_agree}
use Rattle.laws_commands.proofs.audits.minted_runs_agree.Goals as goal

pub returns : goal.returns
returns c = minted_runs_agree
