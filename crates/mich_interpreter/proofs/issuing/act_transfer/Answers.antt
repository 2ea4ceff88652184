use Rattle.std.proofs.Common.{List, drop, subst}
use Rattle.rules_data.specs.values.Val.{Val}
use Rattle.mich_interpreter.specs.Parts.{HasAddress, HasAmount}
use Rattle.mich_interpreter.proofs.Spelled.{transfer_takes}
use Rattle.rules_data.specs.declared.gas.Kind.TheVariants as g
use Rattle.mich_gas.specs.View.{listed}
use Rattle.rules_code.specs.evaluation.Operations.{transfer}
use Rattle.mich_forms.specs.Spelled.{address_bytes}
use Rattle.mich_ops.specs.declared.issued.Issued.TheVariants as i
use Rattle.mich_stack.specs.Views.{seen}
use Rattle.mich_interpreter.specs.View.{tops}
use Rattle.mich_frames.proofs.ForCallers.{transfer_top, transfer_acts, transfer_over, row_broke}
use Rattle.mich_interpreter.proofs.Issued.{stands_issued, transfer_first, seen_operation, over_limit}
use Rattle.mich_interpreter.proofs.Keeping.{scripts_more}
use Rattle.mich_interpreter.proofs.Paid.{paid_less}
use Rattle.mich_interpreter.proofs.issuing.act_transfer.Goals as goal

pub returns-then-not-pay-clause-acts : goal.returns-then-not-pay-clause-acts
returns-then-not-pay-clause-acts c = λ app x fs d Z o h. row_broke _ h (rw c.if-not-pay.true at c.pay.ensures)

pub pop-argument-requires : goal.pop-argument-requires
pop-argument-requires c =
    let p = rw c.if-not-pay.false at c.pay.ensures in
    (c.requires.1.0.sight, transfer_first _ (transfer_top p.0 c.requires.1.5))

pub returns-clause-less : goal.returns-clause-less
returns-clause-less c =
    let p = rw c.if-not-pay.false at c.pay.ensures in
    paid_less (listed c.args.costs.now) g.TransferTokens 0 _ _ c.requires.1.5.runs.charged p.0 p.1

pub pop_amount-amount-requires : goal.pop_amount-amount-requires
pop_amount-amount-requires c =
    let x = c.requires.1.0 in
    (x.sight, subst (λ (V : List Val). HasAmount (drop 1 V)) (c.pop-argument.ensures x.sight) (transfer_takes c.requires.1.5).0)

pub pop_address-to-requires : goal.pop_address-to-requires
pop_address-to-requires c =
    let x = c.requires.1.0 in (
      x.sight,
      subst (λ (V : List Val). HasAddress (drop 1 V)) (c.pop_amount-amount.ensures x.sight)
          (subst (λ (V : List Val). HasAddress (drop 2 V)) (c.pop-argument.ensures x.sight) (transfer_takes c.requires.1.5).1),
    )

pub returns-in_default-clause-acts : goal.returns-in_default-clause-acts
returns-in_default-clause-acts c = λ app x fs d Z o h.
    let p = rw c.if-not-pay.false at c.pay.ensures in
    transfer_over (seen x.sight c.pop-argument.result) c.pop_amount-amount.result (address_bytes c.pop_address-to.result) (tops x.sight c.pop_address-to.new.stack) p.0
    (rw (c.pop-argument.ensures x.sight, c.pop_amount-amount.ensures x.sight, c.pop_address-to.ensures x.sight) at h) (over_limit c.count_operation.result c.args.m.now.counts.issued c.count_operation.new.counts.issued c.in_default.not-Some c.count_operation.ensures.number)

pub returns-clause-acts : goal.returns-clause-acts
returns-clause-acts c = λ app x fs d Z o h.
    let p = rw c.if-not-pay.false at c.pay.ensures in
    let n = c.in-Some.ensures.number in
    let v = c.pop-argument.result in
    let b = address_bytes c.pop_address-to.result in
    let W = tops x.sight c.pop_address-to.new.stack in
    stands_issued x c.args.costs.now c.args.m.now c.push-2.new.stack c.pay.new.meter c.count_operation.new.counts c.push.new.self fs d Z o g.TransferTokens 0 (transfer (seen x.sight v) c.pop_amount-amount.result b)
    (i.Transfer c.in-Some.number v c.pop_amount-amount.result c.pop_address-to.result) c.in-Some.number p.1 n.0 n.2 c.in-Some.ensures.others.0 c.in-Some.ensures.others.1 c.in_ok-push.ensures.pushed
    (rw n.0)
    (rw (c.in_ok-push-2.ensures x.sight, seen_operation x.sight c.in-Some.number, n.0)
    (transfer_acts (seen x.sight v) c.pop_amount-amount.result b W p.0 (rw (c.pop-argument.ensures x.sight, c.pop_amount-amount.ensures x.sight, c.pop_address-to.ensures x.sight) at h) (rw n.0 at n.1)))

pub returns-clause-scripts : goal.returns-clause-scripts
returns-clause-scripts c = scripts_more _ _ _ c.in_ok-push.ensures.pushed tt
