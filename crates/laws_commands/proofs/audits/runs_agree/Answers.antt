use Rattle.laws_commands.proofs.audits_lemmas.Plain.{runs_agree}
use Rattle.laws_commands.proofs.audits.runs_agree.Goals as goal

pub returns : goal.returns
returns c = runs_agree
