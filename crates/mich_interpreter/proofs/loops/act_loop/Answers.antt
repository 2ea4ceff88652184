use Rattle.rules_data.specs.declared.gas.Kind.TheVariants as g
use Rattle.mich_gas.specs.View.{listed}
use Rattle.mich_frames.proofs.ForCallers.{loop_top}
use Rattle.mich_interpreter.proofs.Any.{loop_any, loop_any_broke}
use Rattle.mich_interpreter.proofs.Paid.{stands_paid, paid_less, turns_spend}
use Rattle.mich_interpreter.proofs.loops.act_loop.Goals as goal

pub returns-then-not-pay-clause-acts : goal.returns-then-not-pay-clause-acts
returns-then-not-pay-clause-acts c = λ x fs d Z o h.
    loop_any_broke _ (rw c.if-not-pay.true at c.pay.ensures) h (loop_top h)

pub next_turn-requires : goal.next_turn-requires
next_turn-requires c =
    let r = c.requires in
    let p = rw c.if-not-pay.false at c.pay.ensures in
    (r.0, r.1, r.2, r.3, r.4, rw c.in_ok-body.ensures (stands_paid g.Loop 0 _ c.pay.new.meter p.1 (loop_any _ p.0 r.5 (loop_top r.5))))

pub returns-clause-acts : goal.returns-clause-acts
returns-clause-acts c = λ x fs d Z o h.
    let p = rw c.if-not-pay.false at c.pay.ensures in
    c.in_ok-act.ensures.acts x fs d Z o (rw c.in_ok-body.ensures (stands_paid g.Loop 0 _ c.pay.new.meter p.1 (loop_any _ p.0 h (loop_top h))))

pub returns-clause-less : goal.returns-clause-less
returns-clause-less c =
    let p = rw c.if-not-pay.false at c.pay.ensures in
    let lt = paid_less (listed c.args.costs.now) g.Loop 0 _ _ c.requires.5.runs.charged p.0 p.1 in
    turns_spend _ _ _ c.in_ok-act.act lt c.in_ok-act.ensures.gas
