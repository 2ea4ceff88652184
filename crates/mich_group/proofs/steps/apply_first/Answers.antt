use Rattle.std.proofs.Common.{◌∷◌, ◌++◌, [], List, map, refl, ap, ◌∙◌}
use Rattle.std.specs.Prelude.{reverse}
use Rattle.std.proofs.lemmas.Result.{err_from_is_err_and}
use Rattle.rules_world.specs.world.Groups.{setting_of}
use Rattle.rules_world.specs.world.Outcomes.{ordered}
use Rattle.mich_gas.specs.View.{listed}
use Rattle.mich_machine.specs.Calls.{counts_of}
use Rattle.mich_ops.specs.View.{action as action_of}
use Rattle.mich_group.specs.Waiting.{all_sent, sent_by}
use Rattle.mich_group.specs.declared.waiting.Sent.{Sent}
use Rattle.mich_group.proofs.Sending.{all_sent_more}
use Rattle.mich_group.proofs.Stepping.{begins_with, failed_step, stepped}
use Rattle.mich_group.proofs.steps.apply_first.Goals as goal

pub returns-in_err-applied-clause-steps : goal.returns-in_err-applied-clause-steps
returns-in_err-applied-clause-steps c = λ start w contents g.
    let s = setting_of (listed c.args.costs.now) c.args.counts.now.group c.args.source.now in
    let op = ordered (action_of c.args.action.now) in
    let p = err_from_is_err_and c.from_residual.result c.from_residual.ensures.1 in
    rw (p.1, p.2)
    (failed_step (Unit {0}) s w (op ∷ []) [] op c.args.meter.now c.apply_action.new.meter (counts_of c.args.counts.now) (counts_of c.apply_action.new.counts)
    c.apply_action.new.world c.args.counts.now c.apply_action.new.counts c.args.waiting.now c.args.effects.now c.args.effects.now c.in_err-applied.field-0.0 refl
    (c.in_err-applied.ensures.ends w (begins_with start w s contents c.args.world.now op [] (counts_of c.args.counts.now) g)))

pub returns-clause-steps : goal.returns-clause-steps
returns-clause-steps c = λ start w contents g.
    let s = setting_of (listed c.args.costs.now) c.args.counts.now.group c.args.source.now in
    let op = ordered (action_of c.args.action.now) in
    let a = c.in_ok-applied.applied in
    let v = c.apply_action.new.world in
    let sent = ap (all_sent v.store.bases.present) (c.in_ok-send.ensures ∙ ap (λ (t : List Sent). t ++ reverse (map (sent_by a.by) a.emitted)) c.requires.nothing)
    ∙ all_sent_more v.store.bases.present a.by [] a.emitted in
    stepped s w (op ∷ []) [] op c.args.meter.now c.apply_action.new.meter (counts_of c.args.counts.now) v c.args.counts.now c.apply_action.new.counts a
    c.send.new.waiting c.args.effects.now c.tell.new.effects refl
    (c.in_ok-applied.ensures.ends w (begins_with start w s contents c.args.world.now op [] (counts_of c.args.counts.now) g)) sent c.in_ok-tell.ensures
