use Rattle.rules_text.specs.nodes.Primitives.{primitive_of_code, primitives}
use Rattle.mich_base.proofs.primitives.primitive_of_code.Goals as goal

pub returns : goal.returns
unfolding primitive_of_code primitives
returns c = c.primitive_at.ensures
