use Rattle.std.proofs.Common.{ℕ, true, false, List, ap, ◌∙◌, subst}
use Rattle.rules_data.specs.declared.gas.Kind.TheVariants as g
use Rattle.rules_code.specs.steps.Packing.{unpacked}
use Rattle.rules_code.specs.steps.Step.{optional}
use Rattle.rules_code.specs.evaluation.Trying.{trial}
use Rattle.mich_base.specs.TypeView.{kind}
use Rattle.mich_gas.specs.View.{listed}
use Rattle.mich_stack.specs.Views.{seen}
use Rattle.mich_interpreter.specs.Ends.{IsPaid}
use Rattle.mich_interpreter.specs.View.{tops}
use Rattle.mich_interpreter.proofs.Paid.{paid_less}
use Rattle.mich_interpreter.proofs.Unpacks.{bytes_on_top, few_bytes, unpack_broke, unpack_pushable, unpack_stands}
use Rattle.mich_interpreter.proofs.unpacking.act_unpack.Goals as goal

pub pop_bytes-packed-requires : goal.pop_bytes-packed-requires
pop_bytes-packed-requires c = let r = c.requires.1 in (r.0.sight, bytes_on_top r.0 c.args.costs.now c.args.m.now (kind c.args.ty.now) r.5)

pub optional_value-requires-clause-pushable : goal.optional_value-requires-clause-pushable
optional_value-requires-clause-pushable c = let r = c.requires.1 in unpack_pushable r.0 c.args.costs.now c.args.m.now (kind c.args.ty.now) r.5

pub optional_value-requires-clause-short : goal.optional_value-requires-clause-short
optional_value-requires-clause-short c =
    let r = c.requires.1 in
    rw c.as_slice.ensures (few_bytes r.0 c.args.costs.now c.args.m.now (kind c.args.ty.now) r.5 c.pop_bytes-packed.result (tops r.0.sight c.pop_bytes-packed.new.stack) (c.pop_bytes-packed.ensures r.0.sight))

pub returns-then-not-pay-clause-acts : goal.returns-then-not-pay-clause-acts
returns-then-not-pay-clause-acts c = λ app x fs d Z o h.
    unpack_broke x c.args.costs.now c.args.m.now (kind c.args.ty.now) h c.pop_bytes-packed.result (tops x.sight c.pop_bytes-packed.new.stack) (c.pop_bytes-packed.ensures x.sight)
    c.pay.new.meter (subst (λ (w : ℕ). IsPaid false (listed c.args.costs.now) g.Unpack w c.args.m.now.meter c.pay.new.meter) c.len.ensures (rw c.if-not-pay.true at c.pay.ensures))

pub returns-clause-acts : goal.returns-clause-acts
returns-clause-acts c = λ app x fs d Z o h.
    unpack_stands x c.args.costs.now c.args.m.now (kind c.args.ty.now) h c.pop_bytes-packed.result (tops x.sight c.pop_bytes-packed.new.stack) (c.pop_bytes-packed.ensures x.sight)
    (seen x.sight c.in_ok-value.value) c.push.new.stack c.pay.new.meter (λ e. c.in_ok-value.ensures x.sight e ∙ ap (λ (b : List ℕ). optional (unpacked (trial e) (kind c.args.ty.now) b)) c.as_slice.ensures) (c.in_ok-push.ensures x.sight)
    (subst (λ (w : ℕ). IsPaid true (listed c.args.costs.now) g.Unpack w c.args.m.now.meter c.pay.new.meter) c.len.ensures (rw c.if-not-pay.false at c.pay.ensures))

pub returns-clause-less : goal.returns-clause-less
returns-clause-less c =
    let p = rw c.if-not-pay.false at c.pay.ensures in
    paid_less (listed c.args.costs.now) g.Unpack _ _ _ c.requires.1.5.runs.charged p.0 p.1
