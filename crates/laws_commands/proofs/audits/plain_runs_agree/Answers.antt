use Rattle.laws_commands.proofs.audits_lemmas.Goods.{plain_runs_agree}
use Rattle.laws_commands.proofs.audits.plain_runs_agree.Goals as goal

pub returns : goal.returns
returns c = plain_runs_agree
