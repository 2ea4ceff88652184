use Rattle.std.proofs.Common.{rules, ◌≡◌, Err}
use Rattle.mich_types.proofs.Branches.{entered_both, entered_fault, entered_along, or_branches}
use Rattle.mich_types.proofs.parameter.+branches.Goals as goal

pub add_branches-returns-in_err-add_branch : goal.add_branches-returns-in_err-add_branch
add_branches-returns-in_err-add_branch t c =
    let g = or_branches _ _ _ c.args.at c.behind-right_at.result _ _ _ _ _ c.args.path.now c.in_ok-left_path.left_path c.in_ok-right_path.right_path
    c.in-Some.ensures c.in-Some-two_arguments.ensures c.in_ok-left_path.ensures c.in_ok-right_path.ensures c.behind-right_at.ensures in
    let first : c.add_branch.result ≡ Err c.in_err-add_branch.field-0.0 = search rules in
    let last : c.from_residual-in_err-add_branch.result ≡ Err c.in_err-add_branch.field-0.0 = search rules in
    entered_along _ _ _ _ _ g (entered_fault _ c.add_branch.new.entries _ _ _ _ _ _ first last c.add_branch.ensures)

pub add_branches-returns : goal.add_branches-returns
add_branches-returns t c =
    let g = or_branches _ _ _ c.args.at c.behind-right_at.result _ _ _ _ _ c.args.path.now c.in_ok-left_path.left_path c.in_ok-right_path.right_path
    c.in-Some.ensures c.in-Some-two_arguments.ensures c.in_ok-left_path.ensures c.in_ok-right_path.ensures c.behind-right_at.ensures in
    entered_along _ _ _ _ _ g (entered_both _ _ _ _ _ _ c.in_ok-add_branch.ensures c.add_branch-2.ensures)
