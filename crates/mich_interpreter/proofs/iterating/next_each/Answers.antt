use Rattle.rules_data.specs.declared.gas.Kind.TheVariants as g
use Rattle.mich_gas.specs.View.{listed}
use Rattle.mich_frames.proofs.ForCallers.{each_end, each_opens}
use Rattle.mich_interpreter.proofs.Any.{each_any_broke}
use Rattle.mich_interpreter.proofs.Paid.{opens_paid, paid_less}
use Rattle.mich_interpreter.proofs.iterating.next_each.Goals as goal

pub returns-then-is_done-clause-acts : goal.returns-then-is_done-clause-acts
returns-then-is_done-clause-acts c = λ x fs d Z o h.
    let over = rw c.if-is_done.true at c.is_done.ensures x.sight in
    each_end (rw over at h)

pub returns-then-not-pay-clause-acts : goal.returns-then-not-pay-clause-acts
returns-then-not-pay-clause-acts c = λ x fs d Z o h.
    let more = rw c.if-is_done.false at c.is_done.ensures x.sight in
    each_any_broke _ more (rw c.if-not-pay.true at c.pay.ensures) h

pub next_item-requires : goal.next_item-requires
next_item-requires c =
    let x = c.requires.0 in
    (x.sight, rw c.if-is_done.false at c.is_done.ensures x.sight)

pub returns-clause-acts : goal.returns-clause-acts
returns-clause-acts c = λ x fs d Z o h.
    let p = rw c.if-not-pay.false at c.pay.ensures in
    let opens = opens_paid g.Turn 0 _ c.pay.new.meter p.1 (each_opens _ _ p.0 (rw (c.in_ok-item.ensures x.sight) at h)) in
    rw (c.in_ok-code.ensures, c.in_ok-push.ensures x.sight) opens

pub returns-clause-gas : goal.returns-clause-gas
returns-clause-gas c =
    let p = rw c.if-not-pay.false at c.pay.ensures in
    paid_less (listed c.args.costs.now) g.Turn 0 _ _ c.requires.5.runs.charged p.0 p.1
