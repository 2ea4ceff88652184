use Rattle.laws_code.proofs.safety_lemmas.Law.{never_stuck}
use Rattle.laws_code.proofs.safety.never_stuck.Goals as goal

pub returns : goal.returns
returns c = never_stuck
