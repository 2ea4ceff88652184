use Rattle.std.proofs.Common.{◌≡◌, ◌+◌, ◌≤◌, suc, List, drop, refl, ◌∙◌, subst, arith}
use Rattle.std.specs.Prelude.{pos}
use Rattle.rules_data.specs.declared.gas.Kind.TheVariants as g
use Rattle.rules_text.specs.nodes.Limits.{most_contents}
use Rattle.rules_data.specs.values.Val.{Val, number}
use Rattle.rules_code.specs.evaluation.Operations.{origination, new_contract}
use Rattle.mich_gas.specs.View.{listed}
use Rattle.mich_instr.specs.View.{script_code, script_node}
use Rattle.mich_ops.specs.declared.issued.Issued.TheVariants as i
use Rattle.mich_stack.specs.Views.{seen}
use Rattle.mich_interpreter.specs.View.{tops}
use Rattle.mich_interpreter.proofs.Founded.{storage_third, create_typed, create_any_top, create_any_broke, create_any_acts, create_any_over}
use Rattle.mich_interpreter.specs.Parts.{HasAmount}
use Rattle.mich_interpreter.proofs.Spelled.{create_takes}
use Rattle.mich_interpreter.proofs.Issued.{stands_counted, seen_operation, over_limit}
use Rattle.mich_interpreter.proofs.Keeping.{scripts_more}
use Rattle.mich_interpreter.proofs.Paid.{paid_less}
use Rattle.mich_interpreter.proofs.creating.act_create.Goals as goal

pub returns-then-not-pay-clause-acts : goal.returns-then-not-pay-clause-acts
returns-then-not-pay-clause-acts c = λ x fs d Z o h.
    let s = script_code c.args.script.now in
    create_any_broke s _ (rw c.if-not-pay.true at c.pay.ensures) h (create_any_top s h)

pub pop_delegate-requires : goal.pop_delegate-requires
pop_delegate-requires c = (c.requires.0.sight, (create_takes (script_code c.args.script.now) c.requires.5).0)

pub pop_amount-amount-requires : goal.pop_amount-amount-requires
pop_amount-amount-requires c =
    let x = c.requires.0 in
    (x.sight, subst (λ (V : List Val). HasAmount (drop 1 V)) (c.in_ok-delegate.ensures x.sight) (create_takes (script_code c.args.script.now) c.requires.5).1)

pub count_origination-hash-requires : goal.count_origination-hash-requires
count_origination-hash-requires c =
    let old = c.args.m.now.counts in
    let n = c.in-Some.ensures.number in
    let others = c.in-Some.ensures.others in
    let within : old.originated ≤ old.issued + most_contents = old.originated_within in
    omega (arith, n.0, n.2, others.0, within)

pub pop-storage-requires : goal.pop-storage-requires
pop-storage-requires c =
    let x = c.requires.0 in
    (x.sight, storage_third c.in_ok-delegate.delegate (number (pos c.pop_amount-amount.result)) _ (rw (c.in_ok-delegate.ensures x.sight, c.pop_amount-amount.ensures x.sight) at (create_any_top (script_code c.args.script.now) c.requires.5)))

pub returns-clause-less : goal.returns-clause-less
returns-clause-less c =
    let p = rw c.if-not-pay.false at c.pay.ensures in
    paid_less (listed c.args.costs.now) g.CreateContract 0 _ _ c.requires.5.runs.charged p.0 p.1

pub returns-in_default-clause-acts : goal.returns-in_default-clause-acts
returns-in_default-clause-acts c = λ x fs d Z o h.
    let p = rw c.if-not-pay.false at c.pay.ensures in
    create_any_over (script_code c.args.script.now) c.in_ok-delegate.delegate c.pop_amount-amount.result (seen x.sight c.pop-storage.result) (tops x.sight c.pop-storage.new.stack) p.0
    (over_limit c.count_operation.result c.args.m.now.counts.issued c.count_operation.new.counts.issued c.in_default.not-Some c.count_operation.ensures.number)
    (rw (c.in_ok-delegate.ensures x.sight, c.pop_amount-amount.ensures x.sight, c.pop-storage.ensures x.sight) at h)

pub returns-clause-acts : goal.returns-clause-acts
returns-clause-acts c = λ x fs d Z o h.
    let p = rw c.if-not-pay.false at c.pay.ensures in
    let old = c.args.m.now.counts in
    let number = c.in-Some.number in
    let n = c.in-Some.ensures.number in
    let others = c.in-Some.ensures.others in
    let kept = c.count_origination-hash.ensures.others in
    let delegate = c.in_ok-delegate.delegate in
    let amount = c.pop_amount-amount.result in
    let y = seen x.sight c.pop-storage.result in
    let script = c.args.script.now in
    let address = new_contract old.group old.originated in
    let counted : c.count_origination-hash.new.counts.issued ≡ number + 1 = kept.0 ∙ n.2 in
    let originated : c.count_origination-hash.new.counts.originated ≡ suc old.originated = omega (arith, c.count_origination-hash.ensures.more, others.0) in
    let group : c.count_origination-hash.new.counts.group ≡ old.group = kept.1 ∙ others.1 in
    let same : c.count_origination-hash.result ≡ address = rw (others.0, others.1) at c.count_origination-hash.ensures.hash in
    let meets = rw (c.in_ok-delegate.ensures x.sight, c.pop_amount-amount.ensures x.sight, c.pop-storage.ensures x.sight) at h in
    stands_counted x c.args.costs.now c.args.m.now c.push-3.new.stack c.pay.new.meter c.count_origination-hash.new.counts c.push.new.self fs d Z o g.CreateContract 0 (suc old.originated)
    (origination delegate amount (script_node script) y address)
    (i.Origination number delegate amount c.in_ok-script.script c.pop-storage.result c.count_origination-hash.result) number p.1 n.0 counted originated group c.in_ok-push.ensures.pushed
    (rw (n.0, c.in_ok-script.ensures, same) refl)
    (rw (c.in_ok-push-3.ensures x.sight, c.in_ok-push-2.ensures x.sight, c.in_ok-address.ensures x.sight, seen_operation x.sight number, same, n.0)
    (create_any_acts (script_code script) delegate amount y (tops x.sight c.pop-storage.new.stack) p.0 (rw n.0 at n.1) meets))

pub returns-clause-scripts : goal.returns-clause-scripts
returns-clause-scripts c =
    scripts_more _ _ _ c.in_ok-push.ensures.pushed (rw c.in_ok-script.ensures (create_typed (script_code c.args.script.now) c.requires.5))
