use Rattle.std.proofs.Common.{◌++◌, ap, sym, ◌∙◌}
use Rattle.mich_overload.specs.View.{kinds}
use Rattle.mich_control.proofs.Branches.{branches_none, branches_stand}
use Rattle.mich_control.proofs.shapes.branch_stacks.Goals as goal

pub returns-in_default-2 : goal.returns-in_default-2
returns-in_default-2 c = branches_none _ _ _ _ (sym (ap kinds c.as_slice.ensures) ∙ c.in-Some.ensures) (rw c.in_default-2.is at c.in_ok-first.ensures)

pub returns : goal.returns
returns c =
    let st = rw c.in-Some-2.is at c.in_ok-first.ensures in
    branches_stand _ _ _ _ _ _ _ _ _ (sym (ap kinds c.as_slice.ensures) ∙ c.in-Some.ensures) st c.without-rest.ensures
    (c.in_ok-one.ensures ∙ ap (λ x. kinds c.in-Some-2.first ++ kinds x) (c.in_ok-copy.ensures ∙ c.as_slice-2.ensures)) c.in_ok-other.ensures
