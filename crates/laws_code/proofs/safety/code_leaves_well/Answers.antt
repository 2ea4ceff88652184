use Rattle.laws_code.proofs.safety_lemmas.Law.{code_leaves_well}
use Rattle.laws_code.proofs.safety.code_leaves_well.Goals as goal

pub returns : goal.returns
returns c = code_leaves_well
