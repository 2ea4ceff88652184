use Rattle.std.proofs.Common.{[]}
use Rattle.rules_data.specs.declared.gas.Kind.TheVariants as g
use Rattle.mich_gas.specs.View.{listed}
use Rattle.mich_stack.specs.Views.{seen}
use Rattle.mich_frames.proofs.ForCallers.{mapping_broke, mapping_opens}
use Rattle.mich_interpreter.proofs.Paid.{opens_paid, paid_less}
use Rattle.mich_interpreter.proofs.mapping.next_part.Goals as goal

pub returns-then-not-pay-clause-acts : goal.returns-then-not-pay-clause-acts
returns-then-not-pay-clause-acts c = λ x fs d Z o h.
    mapping_broke (seen x.sight c.args.part) [] (rw c.if-not-pay.true at c.pay.ensures) h

pub returns-clause-acts : goal.returns-clause-acts
returns-clause-acts c = λ x fs d Z o h.
    let p = rw c.if-not-pay.false at c.pay.ensures in
    rw (c.in_ok-making.ensures, c.in_ok-code.ensures, c.in_ok-below.ensures, c.in_ok-push.ensures x.sight) (opens_paid g.Turn 0 _ c.pay.new.meter p.1 (mapping_opens (seen x.sight c.args.part) [] p.0 h))

pub returns-clause-gas : goal.returns-clause-gas
returns-clause-gas c =
    let p = rw c.if-not-pay.false at c.pay.ensures in
    paid_less (listed c.args.costs.now) g.Turn 0 _ _ c.requires.5.runs.charged p.0 p.1
