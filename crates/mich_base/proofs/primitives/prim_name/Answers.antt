use Rattle.rules_text.specs.nodes.Primitives.{name_of_code, primitive_names}
use Rattle.mich_base.proofs.primitives.prim_name.Goals as goal

pub returns : goal.returns
unfolding name_of_code primitive_names
returns c = c.text_at.ensures
