use Rattle.std.proofs.Common.{◌≡◌, subst}
use Rattle.rules_code.specs.steps.Failure as f
use Rattle.rules_code.specs.evaluation.Outcome.{failed}
use Rattle.mich_base.specs.TypeView.{kind}
use Rattle.rules_data.specs.values.Val.{Val}
use Rattle.mich_frames.proofs.ForCallers.{fail_top, fail_acts}
use Rattle.mich_interpreter.proofs.Any.{fail_any_broke}
use Rattle.mich_interpreter.proofs.Failing.{fail_seen}
use Rattle.mich_interpreter.proofs.calls.act_failwith.Goals as goal

pub returns-then-not-pay-clause-acts : goal.returns-then-not-pay-clause-acts
returns-then-not-pay-clause-acts c = λ x fs d Z o h.
    fail_any_broke _ (rw c.if-not-pay.true at c.pay.ensures) h (fail_top h)

pub pop-value-requires : goal.pop-value-requires
pop-value-requires c = (c.requires.0.sight, fail_top c.requires.5)

pub returns-clause-acts : goal.returns-clause-acts
returns-clause-acts c = λ x fs d Z o h.
    let p = rw c.if-not-pay.false at c.pay.ensures in
    let meets = rw (c.pop-value.ensures x.sight) at h in
    rw (c.in_ok-value.ensures, c.in_ok-ty.ensures, c.in_ok-shown.ensures) (subst (λ (w : Val). o ≡ failed (f.failed_with (kind c.args.ty.now) w)) (fail_seen x.sight c.pop-value.result meets) (fail_acts _ p.0 meets))
