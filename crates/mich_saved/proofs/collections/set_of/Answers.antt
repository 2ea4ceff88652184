use Rattle.rules_data.specs.types.Kind as k
use Rattle.mich_saved.proofs.Wholes.{set_whole}
use Rattle.mich_saved.proofs.collections.set_of.Goals as goal

pub returns-clause-whole : goal.returns-clause-whole
returns-clause-whole c = λ a. set_whole (k.set a) c.in_ok-new.field-0
