use Rattle.laws_typing.proofs.literals_lemmas.Places.{bodies_stand}
use Rattle.laws_typing.proofs.literals.bodies_stand_at_their_locations.Goals as goal

pub returns : goal.returns
returns c = bodies_stand
