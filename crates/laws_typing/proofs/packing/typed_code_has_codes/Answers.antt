use Rattle.laws_typing.proofs.packing_lemmas.TypedCode.{typed_code_has_codes}
use Rattle.laws_typing.proofs.packing.typed_code_has_codes.Goals as goal

pub returns : goal.returns
returns c = typed_code_has_codes
