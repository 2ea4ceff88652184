use Rattle.rules_data.specs.declared.gas.Kind.TheVariants as g
use Rattle.mich_gas.specs.View.{listed}
use Rattle.mich_frames.proofs.ForCallers.{dip_top, dip_opens, dip_broke}
use Rattle.mich_interpreter.proofs.Listed.{length_tops}
use Rattle.mich_interpreter.proofs.Paid.{opens_paid, paid_less}
use Rattle.mich_interpreter.proofs.dipping.act_dip.Goals as goal

pub returns-then-not-pay-clause-acts : goal.returns-then-not-pay-clause-acts
returns-then-not-pay-clause-acts c = λ written x fs d Z o h. dip_broke (rw c.if-not-pay.true at c.pay.ensures) h

pub take_above-requires : goal.take_above-requires
take_above-requires c =
    let r = c.requires.1 in
    rw (length_tops r.0.sight c.args.m.now.stack) at (dip_top r.5)

pub returns-clause-acts : goal.returns-clause-acts
returns-clause-acts c = λ written x fs d Z o h.
    let p = rw c.if-not-pay.false at c.pay.ensures in
    let both = c.in_ok-above.ensures x.sight in
    rw (c.in_ok-body.ensures, both.0, both.1) (opens_paid g.Dip 0 _ c.pay.new.meter p.1 (dip_opens p.0 h))

pub returns-clause-less : goal.returns-clause-less
returns-clause-less c =
    let p = rw c.if-not-pay.false at c.pay.ensures in
    paid_less (listed c.args.costs.now) g.Dip 0 _ _ c.requires.1.5.runs.charged p.0 p.1
