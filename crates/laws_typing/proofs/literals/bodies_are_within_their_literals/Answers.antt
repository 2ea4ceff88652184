use Rattle.laws_typing.proofs.literals_lemmas.Sizes.{bodies_within}
use Rattle.laws_typing.proofs.literals.bodies_are_within_their_literals.Goals as goal

pub returns : goal.returns
returns c = bodies_within
