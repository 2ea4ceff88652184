use Rattle.std.proofs.Common.{ap, sym, ◌∙◌, subst}
use Rattle.std.proofs.lemmas.Result.{err_from_is_err_and}
use Rattle.rules_world.specs.world.Groups.{setting_of}
use Rattle.mich_gas.specs.View.{listed}
use Rattle.mich_machine.specs.Calls.{counts_of}
use Rattle.mich_world.proofs.ForCallers.{world_same}
use Rattle.mich_group.specs.Waiting.{AreHanded, all_sent, sent}
use Rattle.mich_group.proofs.Sending.{all_sent_last, are_handed_later, handed_each, handed_front}
use Rattle.mich_group.proofs.Stepping.{begins_with, failed_to, goes_last, sent_now, stepped}
use Rattle.mich_group.proofs.steps.apply_next.Goals as goal

pub returns-in_default-clause-keeps : goal.returns-in_default-clause-keeps
returns-in_default-clause-keeps c = world_same _

pub returns-in_err-applied-clause-steps : goal.returns-in_err-applied-clause-steps
returns-in_err-applied-clause-steps c = λ start w contents g.
    let s = setting_of (listed c.args.costs.now) c.args.counts.now.group c.args.source.now in
    let u = c.args.world.now in
    let bs = u.store.bases.present in
    let ss = c.pop.new.self in
    let op = sent bs c.in-Some.next in
    let first = ap (all_sent bs) c.in-Some.ensures ∙ all_sent_last bs ss c.in-Some.next in
    let b = begins_with start w s contents u op (all_sent bs ss) (counts_of c.args.counts.now)
    (goes_last start w s contents u c.args.waiting.now ss c.in-Some.next (counts_of c.args.counts.now) c.in-Some.ensures g) in
    let p = err_from_is_err_and c.from_residual.result c.from_residual.ensures.1 in
    rw (p.1, p.2)
    (failed_to s w (all_sent bs c.args.waiting.now) (all_sent bs ss) op c.args.meter.now c.apply_issued.new.meter (counts_of c.args.counts.now) (counts_of c.apply_issued.new.counts)
    c.apply_issued.new.world c.args.counts.now c.apply_issued.new.counts ss c.args.effects.now c.args.effects.now c.in_err-applied.field-0.0 first
    (c.in_err-applied.ensures.ends w b))

pub returns-clause-steps : goal.returns-clause-steps
returns-clause-steps c = λ start w contents g.
    let s = setting_of (listed c.args.costs.now) c.args.counts.now.group c.args.source.now in
    let u = c.args.world.now in
    let v = c.apply_issued.new.world in
    let bs = u.store.bases.present in
    let ss = c.pop.new.self in
    let a = c.in_ok-applied.applied in
    let op = sent bs c.in-Some.next in
    let first = ap (all_sent bs) c.in-Some.ensures ∙ all_sent_last bs ss c.in-Some.next in
    let b = begins_with start w s contents u op (all_sent bs ss) (counts_of c.args.counts.now)
    (goes_last start w s contents u c.args.waiting.now ss c.in-Some.next (counts_of c.args.counts.now) c.in-Some.ensures g) in
    let held = handed_front u ss c.in-Some.next (subst (AreHanded u) c.in-Some.ensures c.requires.handed) in
    stepped s w (all_sent bs c.args.waiting.now) (all_sent bs ss) op c.args.meter.now c.apply_issued.new.meter (counts_of c.args.counts.now) v c.args.counts.now c.apply_issued.new.counts a
    c.send.new.waiting c.args.effects.now c.tell.new.effects first (c.in_ok-applied.ensures.ends w b)
    (sent_now u v a.by a.emitted ss c.send.new.waiting c.in_ok-send.ensures c.in_ok-applied.ensures.bases held) c.in_ok-tell.ensures

pub returns-clause-handed : goal.returns-clause-handed
returns-clause-handed c =
    let s = setting_of (listed c.args.costs.now) c.args.counts.now.group c.args.source.now in
    let u = c.args.world.now in
    let v = c.apply_issued.new.world in
    let bs = u.store.bases.present in
    let ss = c.pop.new.self in
    let a = c.in_ok-applied.applied in
    let g = c.requires.goes in
    let b = begins_with g.0 g.1 s g.2 u (sent bs c.in-Some.next) (all_sent bs ss) (counts_of c.args.counts.now)
    (goes_last g.0 g.1 s g.2 u c.args.waiting.now ss c.in-Some.next (counts_of c.args.counts.now) c.in-Some.ensures g.3) in
    let i = c.in_ok-applied.ensures.ends g.1 b in
    let held = handed_front u ss c.in-Some.next (subst (AreHanded u) c.in-Some.ensures c.requires.handed) in
    subst (AreHanded v) (sym c.in_ok-send.ensures)
    (handed_each v a.by ss a.emitted i.handed i.there (are_handed_later u v ss c.in_ok-applied.ensures.bases c.in_ok-applied.ensures.contracts held))
