use Rattle.std.proofs.Common.{ap, ◌∙◌, rules}
use Rattle.mich_base.specs.TypeView.{kind}
use Rattle.mich_base.specs.View.{tree}
use Rattle.mich_term.specs.ValueView.{val}
use Rattle.mich_interpreter.proofs.CapturedCode.{one_lambda, val_lambda}
use Rattle.mich_interpreter.proofs.applied.held_lambda.Goals as goal

pub returns : goal.returns
returns c =
    let l = c.in-Lambda in
    let fine = rw c.in-Some.is at c.in_ok-block.ensures in
    one_lambda (kind c.args.arg.now) (kind c.args.ret.now) (val c.args.value.now) l.recursive (tree c.in_ok-node.node) _ _ c.requires
    (ap val l.is ∙ val_lambda l.body l.recursive ∙ search rules) (rw (c.in_ok-node.ensures) fine) c.in_ok-lambdas.ensures
