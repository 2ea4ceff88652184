use Rattle.std.proofs.Common.{◌∙◌}
use Rattle.rules_data.specs.declared.gas.Kind.TheVariants as g
use Rattle.mich_gas.specs.View.{listed}
use Rattle.mich_frames.proofs.ForCallers.{if_none_top}
use Rattle.mich_interpreter.proofs.Any.{option_broke, none_opens, some_opens}
use Rattle.mich_interpreter.proofs.Paid.{opens_paid, paid_less}
use Rattle.mich_interpreter.proofs.branches.act_if_none.Goals as goal

pub returns-then-not-pay-clause-acts : goal.returns-then-not-pay-clause-acts
returns-then-not-pay-clause-acts c = λ x fs d Z o h.
    option_broke _ (rw c.if-not-pay.true at c.pay.ensures) h (if_none_top h)

pub is_none-none-requires : goal.is_none-none-requires
is_none-none-requires c = (c.requires.0.sight, if_none_top c.requires.5)

pub open_option-requires : goal.open_option-requires
open_option-requires c = (c.requires.0.sight, if_none_top c.requires.5)

pub returns-in_ok-body-clause-acts : goal.returns-in_ok-body-clause-acts
returns-in_ok-body-clause-acts c = λ x fs d Z o h.
    let p = rw c.if-not-pay.false at c.pay.ensures in
    rw (c.in_ok-body.ensures, c.in_ok-open_option.ensures x.sight) (opens_paid g.IfNone 0 _ c.pay.new.meter p.1 (none_opens _ (c.is_none-none.ensures x.sight ∙ c.if-none.true) p.0 h))

pub returns-in_ok-body-2-clause-acts : goal.returns-in_ok-body-2-clause-acts
returns-in_ok-body-2-clause-acts c = λ x fs d Z o h.
    let p = rw c.if-not-pay.false at c.pay.ensures in
    rw (c.in_ok-body-2.ensures, c.in_ok-open_option.ensures x.sight) (opens_paid g.IfNone 0 _ c.pay.new.meter p.1 (some_opens _ (c.is_none-none.ensures x.sight ∙ c.if-none.false) p.0 h (if_none_top h)))

pub returns-in_ok-body-clause-less : goal.returns-in_ok-body-clause-less
returns-in_ok-body-clause-less c =
    let p = rw c.if-not-pay.false at c.pay.ensures in
    paid_less (listed c.args.costs.now) g.IfNone 0 _ _ c.requires.5.runs.charged p.0 p.1

pub returns-in_ok-body-2-clause-less : goal.returns-in_ok-body-2-clause-less
returns-in_ok-body-2-clause-less c =
    let p = rw c.if-not-pay.false at c.pay.ensures in
    paid_less (listed c.args.costs.now) g.IfNone 0 _ _ c.requires.5.runs.charged p.0 p.1
