use Rattle.std.proofs.Common.{Err, refl, subst}
use Rattle.std.specs.Int.{w128}
use Rattle.std.proofs.lemmas.Int.{to_z-of_z}
use Rattle.rules_world.specs.world.Gives.{give_effect}
use Rattle.rules_world.specs.world.Groups.{setting_of}
use Rattle.mich_bigmap.specs.Standing.{val_in}
use Rattle.mich_forms.specs.declared.places.Place.TheVariants as place
use Rattle.mich_gas.specs.View.{listed}
use Rattle.mich_machine.specs.Calls.{run_of}
use Rattle.mich_machine.specs.Calls as machine
use Rattle.mich_machine.specs.declared.running.RunError.{RunError}
use Rattle.mich_operations.specs.Gifts.{gift, tickets_of}
use Rattle.mich_operations.proofs.Ran.{ready_calls, keeps_contracts, ran, ran_failed}
use Rattle.mich_operations.proofs.giving.run_gift.Goals as goal

pub run-requires-clause-called : goal.run-requires-clause-called
run-requires-clause-called c =
    let r = c.requires.ready in
    let v = c.args.world.now in
    let around = c.surroundings-env.ensures.environment r.0 (listed c.args.costs.now) c.args.counts.now.group r.1 (val_in v.store.bases.present c.args.argument) r.2.stands r.2.hash in
    (r.0, r.1, ready_calls v r.0 c.args.costs.now c.args.counts.now c.args.source.now (place.Implicit c.args.source.now) c.args.to.now c.args.name.now 0 c.args.argument r.1 c.surroundings-env.result r.2 around c.surroundings-env.ensures.source)

pub returns-in_ok-effect-in-Ok-clause-ends : goal.returns-in_ok-effect-in-Ok-clause-ends
returns-in_ok-effect-in-Ok-clause-ends c = λ w t ready.
    let v = c.args.world.now in
    let from = place.Implicit c.args.source.now in
    let env = c.surroundings-env.result in
    let around = c.surroundings-env.ensures.environment w (listed c.args.costs.now) c.args.counts.now.group t (val_in v.store.bases.present c.args.argument) ready.stands ready.hash in
    let src = c.surroundings-env.ensures.source in
    let calls = ready_calls v w c.args.costs.now c.args.counts.now c.args.source.now from c.args.to.now c.args.name.now 0 c.args.argument t env ready around src in
    ran v w c.args.costs.now c.args.counts.now c.args.source.now from c.args.to.now c.args.name.now 0 c.args.argument t env ready around src
    (give_effect (setting_of (listed c.args.costs.now) c.args.counts.now.group c.args.source.now) (gift (tickets_of c.args.id.now c.args.amount) (place.Contract c.args.to.now) c.args.name.now))
    c.args.meter.now c.run.new.meter c.run.new.world c.run.new.counts c.in-Ok.done _
    (rw (to_z-of_z w128 c.args.amount c.ranges.amount) at (c.in_ok-effect-in-Ok.ensures (listed c.args.costs.now) c.args.counts.now.group))
    refl refl refl c.requires.there (c.in-Ok.ensures.ends w t calls)

pub returns-in_ok-effect-in-Ok-clause-contracts : goal.returns-in_ok-effect-in-Ok-clause-contracts
returns-in_ok-effect-in-Ok-clause-contracts c =
    let r = c.requires.ready in
    let v = c.args.world.now in
    let from = place.Implicit c.args.source.now in
    let env = c.surroundings-env.result in
    let around = c.surroundings-env.ensures.environment r.0 (listed c.args.costs.now) c.args.counts.now.group r.1 (val_in v.store.bases.present c.args.argument) r.2.stands r.2.hash in
    let src = c.surroundings-env.ensures.source in
    let calls = ready_calls v r.0 c.args.costs.now c.args.counts.now c.args.source.now from c.args.to.now c.args.name.now 0 c.args.argument r.1 env r.2 around src in
    keeps_contracts v r.0 c.args.costs.now c.args.counts.now c.args.source.now from c.args.to.now c.args.name.now 0 c.args.argument r.1 env r.2 around src
    c.args.meter.now c.run.new.world c.run.new.counts c.run.new.meter c.in-Ok.done (c.in-Ok.ensures.ends r.0 r.1 calls)

pub returns-in-Err-Failed-clause-ends : goal.returns-in-Err-Failed-clause-ends
returns-in-Err-Failed-clause-ends c = λ w t ready.
    let v = c.args.world.now in
    let from = place.Implicit c.args.source.now in
    let env = c.surroundings-env.result in
    let around = c.surroundings-env.ensures.environment w (listed c.args.costs.now) c.args.counts.now.group t (val_in v.store.bases.present c.args.argument) ready.stands ready.hash in
    let src = c.surroundings-env.ensures.source in
    let calls = ready_calls v w c.args.costs.now c.args.counts.now c.args.source.now from c.args.to.now c.args.name.now 0 c.args.argument t env ready around src in
    let failed = subst (λ (e : RunError). machine.EndsAs (run_of v w (listed c.args.costs.now) c.args.counts.now c.args.meter.now c.args.argument env t) c.run.new.world c.run.new.meter c.args.counts.now c.run.new.counts (Err e))
    c.in-Err-Failed.field-0-is (c.in-Err-Failed.ensures.ends w t calls) in
    rw c.in-Err-Failed.field-0-is
    (ran_failed v w c.args.costs.now c.args.counts.now c.args.source.now from c.args.to.now c.args.name.now 0 c.args.argument t env ready around src
    (give_effect (setting_of (listed c.args.costs.now) c.args.counts.now.group c.args.source.now) (gift (tickets_of c.args.id.now c.args.amount) (place.Contract c.args.to.now) c.args.name.now))
    c.args.meter.now c.run.new.meter c.run.new.world c.run.new.counts c.in-Err-Failed.why failed)
