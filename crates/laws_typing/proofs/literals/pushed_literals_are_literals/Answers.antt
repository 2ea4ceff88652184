use Rattle.laws_typing.proofs.literals_lemmas.Pushed.{pushed}
use Rattle.laws_typing.proofs.literals.pushed_literals_are_literals.Goals as goal

pub returns : goal.returns
returns c = pushed
