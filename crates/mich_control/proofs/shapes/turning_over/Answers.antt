use Rattle.std.proofs.Common.{◌++◌, ap, sym, ◌∙◌}
use Rattle.mich_overload.specs.View.{kinds}
use Rattle.mich_overload.proofs.ForCallers.{length_kinds}
use Rattle.mich_control.proofs.Loops.{turning_whole}
use Rattle.mich_control.proofs.shapes.turning_over.Goals as goal

pub returns : goal.returns
returns c =
    turning_whole _ _ _ _ _ _ _ (c.in_ok-begins.ensures ∙ ap (λ x. kinds c.args.tops.begins ++ kinds x) (c.in_ok-copy.ensures ∙ c.as_slice.ensures)) c.in_ok-ends.ensures
    (c.len-over.ensures ∙ sym (length_kinds c.args.tops.ends))
