use Rattle.laws_code.proofs.evaluation_lemmas.OriginForms.{originations_are_new}
use Rattle.laws_code.proofs.evaluation.originations_are_new.Goals as goal

pub returns : goal.returns
returns c = originations_are_new
