use Rattle.rules_data.specs.declared.gas.Kind.TheVariants as g
use Rattle.mich_base.specs.View.{tree}
use Rattle.mich_gas.specs.View.{listed}
use Rattle.mich_stack.specs.Views.{seen}
use Rattle.mich_frames.proofs.ForCallers.{exec_top}
use Rattle.mich_interpreter.specs.View.{tops}
use Rattle.mich_interpreter.proofs.Executed.{call_top, call_below, call_seq, exec_any_broke, exec_fits, exec_faultless, exec_any_opens}
use Rattle.mich_interpreter.proofs.Paid.{opens_paid, paid_less}
use Rattle.mich_interpreter.proofs.calls.act_exec.Goals as goal

pub returns-then-not-pay-clause-acts : goal.returns-then-not-pay-clause-acts
returns-then-not-pay-clause-acts c = λ x fs d Z o h.
    exec_any_broke _ (rw c.if-not-pay.true at c.pay.ensures) h (exec_top h)

pub pop-argument-requires : goal.pop-argument-requires
pop-argument-requires c = (c.requires.0.sight, call_top _ (exec_top c.requires.5))

pub pop_lambda-body-requires : goal.pop_lambda-body-requires
pop_lambda-body-requires c =
    let x = c.requires.0 in
    (x.sight, call_below (seen x.sight c.pop-argument.result) _ (rw (c.pop-argument.ensures x.sight) at (exec_top c.requires.5)))

pub code-requires : goal.code-requires
code-requires c =
    let x = c.requires.0 in
    let y = seen x.sight c.pop-argument.result in
    let r = c.pop_lambda-body.result in
    let W = tops x.sight c.pop_lambda-body.new.stack in
    let meets = rw (c.pop-argument.ensures x.sight, c.pop_lambda-body.ensures x.sight) at c.requires.5 in
    record {
      sequence = call_seq y (tree r.0) r.1 W (exec_top meets);
      fits = exec_fits y (tree r.0) r.1 W meets;
      typed = exec_faultless y (tree r.0) r.1 W meets;
    }

pub returns-clause-acts : goal.returns-clause-acts
returns-clause-acts c = λ x fs d Z o h.
    let p = rw c.if-not-pay.false at c.pay.ensures in
    let r = c.pop_lambda-body.result in
    let meets = rw (c.pop-argument.ensures x.sight, c.pop_lambda-body.ensures x.sight) at h in
    rw (c.replace-below.ensures.after, c.replace-below.ensures.value, c.in_ok-stack.ensures x.sight)
    (opens_paid g.Exec 0 _ c.pay.new.meter p.1 (exec_any_opens (seen x.sight c.pop-argument.result) (tree r.0) r.1 (tops x.sight c.pop_lambda-body.new.stack) p.0 c.in_ok-code.ensures meets))

pub returns-clause-less : goal.returns-clause-less
returns-clause-less c =
    let p = rw c.if-not-pay.false at c.pay.ensures in
    paid_less (listed c.args.costs.now) g.Exec 0 _ _ c.requires.5.runs.charged p.0 p.1
