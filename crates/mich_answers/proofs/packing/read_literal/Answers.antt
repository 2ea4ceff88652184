use Rattle.std.proofs.Common.{arith}
use Rattle.laws_typing.proofs.packing_lemmas.ForCallers.{checked_is_packable}
use Rattle.mich_base.specs.TypeView.{kind}
use Rattle.mich_base.specs.View.{tree}
use Rattle.mich_check.specs.Pending.{checked}
use Rattle.mich_answers.proofs.packing.read_literal.Goals as goal

pub checked_literal-requires : goal.checked_literal-requires
checked_literal-requires c =
    checked_is_packable (kind c.args.ty.now) c.args.at (tree c.args.literal.now) (checked c.in-Ok.literal) c.requires.packs (omega (arith, c.requires.fits)) c.in-Ok.ensures.checked
