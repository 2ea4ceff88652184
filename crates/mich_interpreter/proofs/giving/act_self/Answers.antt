use Rattle.rules_data.specs.declared.gas.Kind.TheVariants as g
use Rattle.mich_gas.specs.View.{listed}
use Rattle.mich_frames.proofs.ForCallers.{self_acts, self_broke}
use Rattle.mich_interpreter.proofs.Paid.{stands_paid, paid_less}
use Rattle.mich_interpreter.proofs.giving.act_self.Goals as goal

pub returns-then-not-pay-clause-acts : goal.returns-then-not-pay-clause-acts
returns-then-not-pay-clause-acts c = λ annots x fs d Z o h.
    self_broke c.args.entrypoint.now h (rw c.if-not-pay.true at c.pay.ensures)

pub returns-clause-acts : goal.returns-clause-acts
returns-clause-acts c = λ annots x fs d Z o h.
    let p = rw c.if-not-pay.false at c.pay.ensures in
    rw (c.in_ok-push.ensures x.sight, c.in_ok-address.ensures x.sight) (stands_paid g.SelfContract 0 _ c.pay.new.meter p.1 (self_acts c.args.entrypoint.now h p.0))

pub returns-clause-less : goal.returns-clause-less
returns-clause-less c =
    let p = rw c.if-not-pay.false at c.pay.ensures in
    paid_less (listed c.args.costs.now) g.SelfContract 0 _ _ c.requires.1.5.runs.charged p.0 p.1
