use Rattle.laws_typing.proofs.packing_lemmas.Packables.{literal_is_packable}
use Rattle.laws_typing.proofs.packing.literals_are_packable.Goals as goal

pub returns : goal.returns
returns c = literal_is_packable
