use Rattle.laws_typing.proofs.packing_lemmas.Packables.{fitting_is_packable}
use Rattle.laws_typing.proofs.packing.fitting_values_are_packable.Goals as goal

pub returns : goal.returns
returns c = fitting_is_packable
