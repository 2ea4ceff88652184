use Rattle.std.proofs.Common.{rules}
use Rattle.std.specs.Prelude.{Err}
use Rattle.mich_base.specs.View.{tree}
use Rattle.mich_outline.specs.Answers.{found_from}
use Rattle.mich_control.specs.Answers.{IsFound}
use Rattle.mich_control.specs.Arrows.{arrow_in, arrow_of}
use Rattle.mich_control.proofs.LambdaTyping.{argument_fails, result_fails}
use Rattle.mich_control.proofs.arrows.read_arrow.Goals as goal

pub returns-in_err-arg : goal.returns-in_err-arg
returns-in_err-arg c =
    let fault : IsFound arrow_of (found_from c.args.at (arrow_in (tree c.args.first.now) (tree c.args.second.now))) (Err c.in_err-arg.field-0.0) =
    argument_fails arrow_of _ _ _ _ c.in_err-arg.ensures in
    search (rules, fault)

pub returns-in_err-ret : goal.returns-in_err-ret
returns-in_err-ret c =
    let fault : IsFound arrow_of (found_from c.args.at (arrow_in (tree c.args.first.now) (tree c.args.second.now))) (Err c.in_err-ret.field-0.0) =
    result_fails arrow_of _ _ _ _ _ _ c.in_ok-arg.ensures c.behind.ensures c.in_err-ret.ensures in
    search (rules, fault)
