use Rattle.std.proofs.Common.{◌∙◌}
use Rattle.mich_base.specs.TypeView.{kind}
use Rattle.mich_interpreter.proofs.Unpacks.{found_is}
use Rattle.mich_interpreter.proofs.unpacking.optional_value.Goals as goal

pub returns : goal.returns
returns c = λ big e.
    c.in_ok-value.ensures big
    ∙ found_is (kind c.args.ty.now) c.args.packed.now c.in_ok-found.found c.requires.pushable c.in_ok-found.ensures.unpacked c.in_ok-found.ensures.whole big e
