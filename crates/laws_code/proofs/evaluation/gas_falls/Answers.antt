use Rattle.laws_code.proofs.evaluation_lemmas.Levels.{eval_left}
use Rattle.laws_code.proofs.evaluation.gas_falls.Goals as goal

pub returns : goal.returns
returns c = eval_left
