use Rattle.laws_world.proofs.accounts.ForCallers.{texts_tell_types}
use Rattle.laws_world.proofs.groups.texts_tell_types.Goals as goal

pub returns : goal.returns
returns c = texts_tell_types
