use Rattle.rules_data.specs.declared.gas.Kind.TheVariants as g
use Rattle.rules_code.specs.evaluation.Operations.{event}
use Rattle.mich_base.specs.TypeView.{kind}
use Rattle.mich_gas.specs.View.{listed}
use Rattle.mich_ops.specs.declared.issued.Issued.TheVariants as i
use Rattle.mich_stack.specs.Views.{seen}
use Rattle.mich_interpreter.specs.View.{tops}
use Rattle.mich_frames.proofs.ForCallers.{emit_top, emit_acts, emit_over, row_broke}
use Rattle.mich_interpreter.proofs.Issued.{stands_issued, seen_operation, over_limit}
use Rattle.mich_interpreter.proofs.Keeping.{scripts_more}
use Rattle.mich_interpreter.proofs.Paid.{paid_less}
use Rattle.mich_interpreter.proofs.issuing.act_emit.Goals as goal

pub returns-then-not-pay-clause-acts : goal.returns-then-not-pay-clause-acts
returns-then-not-pay-clause-acts c = λ app x fs d Z o h. row_broke _ h (rw c.if-not-pay.true at c.pay.ensures)

pub pop-value-requires : goal.pop-value-requires
pop-value-requires c =
    let p = rw c.if-not-pay.false at c.pay.ensures in
    (c.requires.1.0.sight, emit_top c.args.tag.now (kind c.args.ty.now) p.0 c.requires.1.5)

pub returns-clause-less : goal.returns-clause-less
returns-clause-less c =
    let p = rw c.if-not-pay.false at c.pay.ensures in
    paid_less (listed c.args.costs.now) g.Emit 0 _ _ c.requires.1.5.runs.charged p.0 p.1

pub returns-in_default-clause-acts : goal.returns-in_default-clause-acts
returns-in_default-clause-acts c = λ app x fs d Z o h.
    let p = rw c.if-not-pay.false at c.pay.ensures in
    let v = c.pop-value.result in
    emit_over c.args.tag.now (kind c.args.ty.now) (seen x.sight v) (tops x.sight c.pop-value.new.stack) p.0 (rw (c.pop-value.ensures x.sight) at h) (over_limit c.count_operation.result c.args.m.now.counts.issued c.count_operation.new.counts.issued c.in_default.not-Some c.count_operation.ensures.number)

pub returns-clause-acts : goal.returns-clause-acts
returns-clause-acts c = λ app x fs d Z o h.
    let p = rw c.if-not-pay.false at c.pay.ensures in
    let n = c.in-Some.ensures.number in
    let v = c.pop-value.result in
    let W = tops x.sight c.pop-value.new.stack in
    stands_issued x c.args.costs.now c.args.m.now c.push-2.new.stack c.pay.new.meter c.count_operation.new.counts c.push.new.self fs d Z o g.Emit 0 (event c.args.tag.now (kind c.args.ty.now) (seen x.sight v))
    (i.Event c.in-Some.number c.in_ok-tag.tag c.in_ok-ty.ty v) c.in-Some.number p.1 n.0 n.2 c.in-Some.ensures.others.0 c.in-Some.ensures.others.1 c.in_ok-push.ensures.pushed
    (rw (n.0, c.in_ok-tag.ensures, c.in_ok-ty.ensures))
    (rw (c.in_ok-push-2.ensures x.sight, seen_operation x.sight c.in-Some.number, n.0)
    (emit_acts c.args.tag.now (kind c.args.ty.now) (seen x.sight v) W p.0 (rw (c.pop-value.ensures x.sight) at h) (rw n.0 at n.1)))

pub returns-clause-scripts : goal.returns-clause-scripts
returns-clause-scripts c = scripts_more _ _ _ c.in_ok-push.ensures.pushed tt
