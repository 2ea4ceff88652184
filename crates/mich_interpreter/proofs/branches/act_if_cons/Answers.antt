use Rattle.std.proofs.Common.{◌∙◌}
use Rattle.rules_data.specs.declared.gas.Kind.TheVariants as g
use Rattle.mich_gas.specs.View.{listed}
use Rattle.mich_frames.proofs.ForCallers.{if_cons_top}
use Rattle.mich_interpreter.proofs.Any.{list_broke, cons_opens, empty_opens}
use Rattle.mich_interpreter.proofs.Paid.{opens_paid, paid_less}
use Rattle.mich_interpreter.proofs.branches.act_if_cons.Goals as goal

pub returns-then-not-pay-clause-acts : goal.returns-then-not-pay-clause-acts
returns-then-not-pay-clause-acts c = λ x fs d Z o h.
    list_broke _ (rw c.if-not-pay.true at c.pay.ensures) h (if_cons_top h)

pub is_cons-cons-requires : goal.is_cons-cons-requires
is_cons-cons-requires c = (c.requires.0.sight, if_cons_top c.requires.5)

pub open_list-requires : goal.open_list-requires
open_list-requires c = (c.requires.0.sight, if_cons_top c.requires.5)

pub returns-in_ok-body-clause-acts : goal.returns-in_ok-body-clause-acts
returns-in_ok-body-clause-acts c = λ x fs d Z o h.
    let p = rw c.if-not-pay.false at c.pay.ensures in
    rw (c.in_ok-body.ensures, c.in_ok-open_list.ensures x.sight) (opens_paid g.IfCons 0 _ c.pay.new.meter p.1 (cons_opens _ (c.is_cons-cons.ensures x.sight ∙ c.if-cons.true) p.0 h))

pub returns-in_ok-body-2-clause-acts : goal.returns-in_ok-body-2-clause-acts
returns-in_ok-body-2-clause-acts c = λ x fs d Z o h.
    let p = rw c.if-not-pay.false at c.pay.ensures in
    rw (c.in_ok-body-2.ensures, c.in_ok-open_list.ensures x.sight) (opens_paid g.IfCons 0 _ c.pay.new.meter p.1 (empty_opens _ (c.is_cons-cons.ensures x.sight ∙ c.if-cons.false) p.0 h (if_cons_top h)))

pub returns-in_ok-body-clause-less : goal.returns-in_ok-body-clause-less
returns-in_ok-body-clause-less c =
    let p = rw c.if-not-pay.false at c.pay.ensures in
    paid_less (listed c.args.costs.now) g.IfCons 0 _ _ c.requires.5.runs.charged p.0 p.1

pub returns-in_ok-body-2-clause-less : goal.returns-in_ok-body-2-clause-less
returns-in_ok-body-2-clause-less c =
    let p = rw c.if-not-pay.false at c.pay.ensures in
    paid_less (listed c.args.costs.now) g.IfCons 0 _ _ c.requires.5.runs.charged p.0 p.1
