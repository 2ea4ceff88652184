use Rattle.laws_code.proofs.evaluation_lemmas.Levels.{eval_is}
use Rattle.laws_code.proofs.evaluation.evaluation_is_its_step.Goals as goal

pub returns : goal.returns
returns c = eval_is
