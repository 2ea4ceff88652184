use Rattle.rules_world.specs.world.Arguments.{value}
use Rattle.rules_world.specs.world.Groups.{setting_of}
use Rattle.mich_bigmap.specs.Standing.{val_in}
use Rattle.mich_forms.specs.Spelled.{address_bytes}
use Rattle.mich_gas.specs.View.{listed}
use Rattle.mich_machine.specs.Calls.{counts_of}
use Rattle.mich_operations.proofs.Sent.{sends_account, sends_contract, sent_due, sent_so}
use Rattle.mich_operations.proofs.sending.send.Goals as goal

pub call_contract-requires-clause-due : goal.call_contract-requires-clause-due
call_contract-requires-clause-due c =
    let s = setting_of (listed c.args.costs.now) c.args.counts.now.group c.args.source.now in
    let p = c.parts-place in
    let g = c.requires.next in
    let d = sent_due c.args.world.now g.0 s c.args.by p.result.0 p.result.1 c.args.amount c.args.argument (counts_of c.args.counts.now)
    (address_bytes c.args.to.now) p.ensures.spelled p.ensures.place p.ensures.name g.1 c.in-Contract.hash c.in-Contract.is in
    (g.0, d.0, d.1)

pub send_account-requires-clause-sent : goal.send_account-requires-clause-sent
send_account-requires-clause-sent c =
    let s = setting_of (listed c.args.costs.now) c.args.counts.now.group c.args.source.now in
    let p = c.parts-place in
    let g = c.requires.next in (
      g.0,
      sent_so c.args.world.now g.0 s c.args.by p.result.0 p.result.1 c.args.amount c.args.argument (counts_of c.args.counts.now)
          (address_bytes c.args.to.now) p.ensures.spelled p.ensures.place p.ensures.name g.1 c.in-Implicit.who c.in-Implicit.is,
    )

pub returns-in-Implicit-clause-ends : goal.returns-in-Implicit-clause-ends
returns-in-Implicit-clause-ends c = λ w b.
    let s = setting_of (listed c.args.costs.now) c.args.counts.now.group c.args.source.now in
    let p = c.parts-place in
    let m = sent_so c.args.world.now w s c.args.by p.result.0 p.result.1 c.args.amount c.args.argument (counts_of c.args.counts.now)
    (address_bytes c.args.to.now) p.ensures.spelled p.ensures.place p.ensures.name b c.in-Implicit.who c.in-Implicit.is in
    sends_account c.args.world.now w s c.args.by p.result.0 p.result.1 c.args.amount c.args.argument (counts_of c.args.counts.now)
    (address_bytes c.args.to.now) p.ensures.spelled p.ensures.place p.ensures.name b c.in-Implicit.who c.in-Implicit.is
    c.args.meter.now c.args.counts.now c.send_account.new.world c.send_account.result
    (c.send_account.ensures.ends w c.args.meter.now c.args.counts.now m)

pub returns-in-Contract-clause-ends : goal.returns-in-Contract-clause-ends
returns-in-Contract-clause-ends c = λ w b.
    let s = setting_of (listed c.args.costs.now) c.args.counts.now.group c.args.source.now in
    let p = c.parts-place in
    let d = sent_due c.args.world.now w s c.args.by p.result.0 p.result.1 c.args.amount c.args.argument (counts_of c.args.counts.now)
    (address_bytes c.args.to.now) p.ensures.spelled p.ensures.place p.ensures.name b c.in-Contract.hash c.in-Contract.is in
    sends_contract c.args.world.now w s c.args.by p.result.0 p.result.1 c.args.amount c.args.argument (counts_of c.args.counts.now)
    (address_bytes c.args.to.now) p.ensures.spelled p.ensures.place p.ensures.name b c.in-Contract.hash c.in-Contract.is
    c.args.meter.now c.call_contract.new.meter c.args.counts.now c.call_contract.new.counts c.call_contract.new.world c.call_contract.result
    (c.call_contract.ensures.ends w d.0 (value (val_in c.args.world.now.store.bases.present c.args.argument)) d.1)
