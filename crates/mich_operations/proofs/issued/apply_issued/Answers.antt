use Rattle.std.proofs.Common.{◌≡◌, None, rules, subst, sym}
use Rattle.rules_world.specs.world.Application.{apply}
use Rattle.rules_world.specs.world.Groups.{setting_of}
use Rattle.mich_gas.specs.View.{listed}
use Rattle.mich_ops.specs.declared.issued.Issued.{Issued}
use Rattle.mich_machine.specs.Calls.{counts_of, IsHanded}
use Rattle.mich_world.proofs.ForCallers.{world_same}
use Rattle.mich_operations.specs.Going.{Begins, EndsAs, issued_by}
use Rattle.mich_operations.proofs.Issuing.{absent_yet, keeps_either, makes, may_enter, none_of, pays_for, tells}
use Rattle.mich_operations.proofs.issued.apply_issued.Goals as goal

pub returns-in_err-charge-in-Transfer-clause-keeps : goal.returns-in_err-charge-in-Transfer-clause-keeps
returns-in_err-charge-in-Transfer-clause-keeps c = keeps_either c.from_residual.result c.args.world.now

pub returns-in_err-charge-in-Origination-clause-keeps : goal.returns-in_err-charge-in-Origination-clause-keeps
returns-in_err-charge-in-Origination-clause-keeps c = keeps_either c.from_residual-in_err-charge-in-Origination.result c.args.world.now

pub returns-in_err-charge-in-Event-clause-keeps : goal.returns-in_err-charge-in-Event-clause-keeps
returns-in_err-charge-in-Event-clause-keeps c = keeps_either c.from_residual-in_err-charge-in-Event.result c.args.world.now

pub returns-then-is_some-clause-keeps : goal.returns-then-is_some-clause-keeps
returns-then-is_some-clause-keeps c = world_same _

pub returns-in_ok-charge-in-Event-clause-keeps : goal.returns-in_ok-charge-in-Event-clause-keeps
returns-in_ok-charge-in-Event-clause-keeps c = keeps_either c.tell-told.result c.args.world.now

pub found-requires-clause-absent : goal.found-requires-clause-absent
found-requires-clause-absent c =
    let o = c.in-Origination in
    let v = c.args.world.now in
    let s = setting_of (listed c.args.costs.now) c.args.counts.now.group c.args.source.now in
    let g = c.requires.next in
    absent_yet v g.0 s c.args.by o.number o.delegate o.amount o.script o.storage o.hash (counts_of c.args.counts.now)
    (subst (λ (op : Issued). Begins v g.0 s (issued_by v.store.bases.present c.args.by op) (counts_of c.args.counts.now)) o.is g.1)

pub found-requires-clause-enter : goal.found-requires-clause-enter
found-requires-clause-enter c =
    let o = c.in-Origination in
    let v = c.args.world.now in
    let s = setting_of (listed c.args.costs.now) c.args.counts.now.group c.args.source.now in
    let g = c.requires.next in
    may_enter v g.0 s c.args.by o.number o.delegate o.amount o.script o.storage o.hash (counts_of c.args.counts.now)
    (subst (λ (op : Issued). Begins v g.0 s (issued_by v.store.bases.present c.args.by op) (counts_of c.args.counts.now)) o.is g.1)
    c.requires.hosting.ticketless (subst (IsHanded v.store.bases.present) o.is c.requires.handed).0

pub returns-else-is_some-clause-ends : goal.returns-else-is_some-clause-ends
returns-else-is_some-clause-ends c = λ w b.
    let o = c.in-Origination in
    let v = c.args.world.now in
    let s = setting_of (listed c.args.costs.now) c.args.counts.now.group c.args.source.now in
    let paid = c.in_ok-charge-in-Origination.ensures in
    let none : o.delegate ≡ None = search (rules, none_of) in
    let begins = subst (λ (op : Issued). Begins v w s (issued_by v.store.bases.present c.args.by op) (counts_of c.args.counts.now)) o.is b in
    subst (λ (op : Issued). EndsAs (apply s w (issued_by v.store.bases.present c.args.by op) c.args.meter.now (counts_of c.args.counts.now)) c.found.new.world c.charge-in-Origination.new.meter
    c.args.counts.now c.args.counts.now c.found.result) (sym o.is)
    (makes v w s c.args.by o.number o.delegate o.amount o.script o.storage o.hash c.found.new.world c.args.meter.now c.charge-in-Origination.new.meter c.args.counts.now c.found.result paid.0 paid.1 none
    (c.found.ensures.ends (listed c.args.costs.now) w c.charge-in-Origination.new.meter c.args.counts.now.group c.args.counts.now
    (pays_for v w s c.args.by o.number o.delegate o.amount o.script o.storage o.hash (counts_of c.args.counts.now) begins)))

pub returns-in_ok-charge-in-Event-clause-ends : goal.returns-in_ok-charge-in-Event-clause-ends
returns-in_ok-charge-in-Event-clause-ends c = λ w b.
    let o = c.in-Event in
    let v = c.args.world.now in
    let s = setting_of (listed c.args.costs.now) c.args.counts.now.group c.args.source.now in
    let paid = c.in_ok-charge-in-Event.ensures in
    subst (λ (op : Issued). EndsAs (apply s w (issued_by v.store.bases.present c.args.by op) c.args.meter.now (counts_of c.args.counts.now)) v c.charge-in-Event.new.meter
    c.args.counts.now c.args.counts.now c.tell-told.result) (sym o.is)
    (tells v v w s c.args.by o.number o.tag o.ty o.value c.args.meter.now c.charge-in-Event.new.meter c.args.counts.now c.tell-told.result paid.0 paid.1
    (c.tell-told.ensures w c.charge-in-Event.new.meter c.args.counts.now b.stands))
