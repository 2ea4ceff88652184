use Rattle.std.proofs.Common.{Err}
use Rattle.rules_world.specs.world.Arguments.{node}
use Rattle.rules_world.specs.world.Groups.{setting_of}
use Rattle.mich_base.specs.View.{tree}
use Rattle.mich_gas.specs.View.{listed}
use Rattle.mich_machine.specs.Calls.{counts_of}
use Rattle.mich_operations.proofs.Calling.{at_contract, based, calls, due, from_contract, refused}
use Rattle.mich_operations.proofs.Hosting.{keeps_same}
use Rattle.mich_operations.proofs.Paying.{between, delivers}
use Rattle.mich_operations.proofs.calls.call.Goals as goal

pub returns-in-Implicit-clause-ends : goal.returns-in-Implicit-clause-ends
returns-in-Implicit-clause-ends c = λ w b.
    let s = setting_of (listed c.args.costs.now) c.args.counts.now.group c.args.source.now in
    let m = between c.args.world.now w s c.args.amount c.args.entry.now (tree c.args.argument.now) c.args.to.now c.in-Implicit.who (counts_of c.args.counts.now) c.in-Implicit.is b in
    delivers s w c.args.amount c.args.entry.now (tree c.args.argument.now) c.args.to.now c.in-Implicit.who c.args.meter.now c.args.counts.now c.call_account.new.world c.call_account.result
    c.in-Implicit.is m.receiver (c.call_account.ensures.ends w c.args.meter.now c.args.counts.now m)

pub call_contract-requires-clause-due : goal.call_contract-requires-clause-due
call_contract-requires-clause-due c =
    let s = setting_of (listed c.args.costs.now) c.args.counts.now.group c.args.source.now in
    let cs = counts_of c.args.counts.now in
    let v = c.args.world.now in
    let hash = c.in-Contract.hash in
    let literal = tree c.args.argument.now in
    let w = c.requires.next.0 in
    let here = at_contract v w s c.args.amount hash c.args.entry.now literal cs c.args.to.now c.in-Contract.is c.requires.next.1 in
    let h = c.in-Ok.ensures w here.stands in
    (w, h.target, due v w s c.args.amount hash c.args.entry.now literal cs here c.in-Ok.value h)

pub call_contract-requires-clause-based : goal.call_contract-requires-clause-based
call_contract-requires-clause-based c =
    let s = setting_of (listed c.args.costs.now) c.args.counts.now.group c.args.source.now in
    let cs = counts_of c.args.counts.now in
    let v = c.args.world.now in
    let hash = c.in-Contract.hash in
    let literal = tree c.args.argument.now in
    let w = c.requires.next.0 in
    let here = at_contract v w s c.args.amount hash c.args.entry.now literal cs c.args.to.now c.in-Contract.is c.requires.next.1 in
    based v w s c.args.amount hash c.args.entry.now literal cs here c.in-Ok.value (c.in-Ok.ensures w here.stands)

pub returns-in-Ok-clause-ends : goal.returns-in-Ok-clause-ends
returns-in-Ok-clause-ends c = λ w b.
    let s = setting_of (listed c.args.costs.now) c.args.counts.now.group c.args.source.now in
    let cs = counts_of c.args.counts.now in
    let v = c.args.world.now in
    let hash = c.in-Contract.hash in
    let literal = tree c.args.argument.now in
    let here = at_contract v w s c.args.amount hash c.args.entry.now literal cs c.args.to.now c.in-Contract.is b in
    let h = c.in-Ok.ensures w here.stands in
    let value = c.in-Ok.value in
    from_contract w s c.args.amount hash c.args.entry.now literal c.args.to.now c.args.meter.now c.call_contract.new.meter c.args.counts.now c.call_contract.new.counts c.call_contract.new.world c.call_contract.result c.in-Contract.is
    (calls v w s c.args.amount hash c.args.entry.now literal cs here value h c.args.meter.now c.call_contract.new.meter c.args.counts.now c.call_contract.new.counts c.call_contract.new.world c.call_contract.result
    (c.call_contract.ensures.ends w h.target (node literal) (due v w s c.args.amount hash c.args.entry.now literal cs here value h)))

pub returns-in-Err-clause-ends : goal.returns-in-Err-clause-ends
returns-in-Err-clause-ends c = λ w b.
    let s = setting_of (listed c.args.costs.now) c.args.counts.now.group c.args.source.now in
    let cs = counts_of c.args.counts.now in
    let v = c.args.world.now in
    let hash = c.in-Contract.hash in
    let literal = tree c.args.argument.now in
    let here = at_contract v w s c.args.amount hash c.args.entry.now literal cs c.args.to.now c.in-Contract.is b in
    from_contract w s c.args.amount hash c.args.entry.now literal c.args.to.now c.args.meter.now c.args.meter.now c.args.counts.now c.args.counts.now v (Err c.in-Err.why) c.in-Contract.is
    (refused v w s c.args.amount hash c.args.entry.now literal cs here c.args.meter.now c.args.meter.now c.args.counts.now c.args.counts.now v c.in-Err.why (c.in-Err.ensures w here.stands))

pub returns-in-Err-clause-keeps : goal.returns-in-Err-clause-keeps
returns-in-Err-clause-keeps c = keeps_same c.in-Err.why c.args.world.now
