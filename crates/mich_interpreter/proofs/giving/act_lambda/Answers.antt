use Rattle.mich_gas.specs.View.{listed}
use Rattle.mich_base.specs.View.{tree}
use Rattle.mich_frames.specs.Shapes.{lambda_price}
use Rattle.mich_frames.proofs.ForCallers.{lambda_acts, lambda_broke}
use Rattle.mich_interpreter.proofs.Executed.{lambda_body}
use Rattle.mich_interpreter.proofs.Paid.{stands_paid, paid_less}
use Rattle.mich_interpreter.proofs.giving.act_lambda.Goals as goal

pub returns-then-not-pay-clause-acts : goal.returns-then-not-pay-clause-acts
returns-then-not-pay-clause-acts c = λ written x fs d Z o h.
    lambda_broke c.args.recursive (tree c.args.body.now) h (rw (c.lambda_kind-kind.ensures) at (rw c.if-not-pay.true at c.pay.ensures))

pub typed_lambda-requires : goal.typed_lambda-requires
typed_lambda-requires c = lambda_body c.args.recursive (tree c.args.body.now) c.requires.1.5

pub returns-clause-acts : goal.returns-clause-acts
returns-clause-acts c = λ written x fs d Z o h.
    let p = rw (c.lambda_kind-kind.ensures) at (rw c.if-not-pay.false at c.pay.ensures) in
    let stands = stands_paid (lambda_price c.args.recursive) 0 _ c.pay.new.meter p.1 (lambda_acts c.args.recursive (tree c.args.body.now) h p.0) in
    rw (c.in_ok-push.ensures x.sight, c.in_ok-lambda.ensures x.sight) stands

pub returns-clause-less : goal.returns-clause-less
returns-clause-less c =
    let p = rw (c.lambda_kind-kind.ensures) at (rw c.if-not-pay.false at c.pay.ensures) in
    paid_less (listed c.args.costs.now) (lambda_price c.args.recursive) 0 _ _ c.requires.1.5.runs.charged p.0 p.1
