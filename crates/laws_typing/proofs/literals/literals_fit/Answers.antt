use Rattle.laws_typing.proofs.literals_lemmas.Fit.{literals_fit}
use Rattle.laws_typing.proofs.literals.literals_fit.Goals as goal

pub returns : goal.returns
returns c = literals_fit
