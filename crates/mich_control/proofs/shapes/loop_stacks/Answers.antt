use Rattle.std.proofs.Common.{ap, sym, ◌∙◌}
use Rattle.mich_overload.specs.View.{kinds}
use Rattle.mich_control.proofs.Loops.{loop_stands}
use Rattle.mich_control.proofs.shapes.loop_stacks.Goals as goal

pub returns : goal.returns
returns c =
    let st = rw c.in-Some-2.is at c.in_ok-tops.ensures in
    loop_stands _ _ _ _ _ _ _ (sym (ap kinds c.as_slice.ensures) ∙ c.in-Some.ensures) st c.without.ensures c.in_ok-turning.ensures
