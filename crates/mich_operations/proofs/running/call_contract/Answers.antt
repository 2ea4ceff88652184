use Rattle.std.proofs.Common.{Err, is_some, List, refl, subst, sym, true, ◌≡◌, ℕ}
use Rattle.std.proofs.lemmas.Result.{err_from_is_err_and}
use Rattle.rules_world.specs.world.Groups.{setting_of}
use Rattle.rules_world.specs.world.Balances.{moved}
use Rattle.rules_data.specs.forms.Spelling.{contract_place}
use Rattle.mich_bigmap.specs.Extended.{Extends}
use Rattle.mich_bigmap.specs.Stored.{Stored}
use Rattle.mich_forms.specs.Spelled.{place_bytes}
use Rattle.mich_forms.specs.declared.places.Place.TheVariants as place
use Rattle.mich_gas.specs.View.{listed}
use Rattle.mich_machine.specs.Calls.{counts_of}
use Rattle.mich_ops.specs.declared.failure.Failure.TheVariants as failures
use Rattle.mich_world.specs.Holders.{contract_at}
use Rattle.mich_world.specs.World.{World}
use Rattle.mich_world.proofs.ForCallers.{world_trans}
use Rattle.mich_operations.proofs.Growths.{either_way}
use Rattle.mich_operations.proofs.Hosting.{hosting_moved, contracts_moved}
use Rattle.mich_operations.proofs.Ran.{due_ready, covers, grows_on, memory_either, not_covered, runs_not, runs_on, with_memory}
use Rattle.mich_operations.proofs.running.call_contract.Goals as goal

pub run_contract-requires-clause-ready : goal.run_contract-requires-clause-ready
run_contract-requires-clause-ready c =
    let r = c.requires.due in
    let a = c.in-Ok.ensures.answer in
    let s = setting_of (listed c.args.costs.now) c.args.counts.now.group c.args.source.now in (
      moved r.0 (place_bytes c.args.from.now) (contract_place c.args.to.now) c.args.amount,
      r.1,
      due_ready c.args.world.now r.0 s (counts_of c.args.counts.now) c.args.from.now c.args.to.now c.args.name.now c.args.amount c.args.argument r.1 r.2 c.requires.payer a.1 c.move_mutez.new.self c.in-Ok.ensures.others a.2,
    )

pub run_contract-requires-clause-hosting : goal.run_contract-requires-clause-hosting
run_contract-requires-clause-hosting c =
    hosting_moved c.args.world.now c.move_mutez.new.self c.args.from.now (place.Contract c.args.to.now) c.args.amount c.in-Ok.ensures.others c.in-Ok.ensures.answer.2 c.requires.hosting

pub run_contract-requires-clause-there : goal.run_contract-requires-clause-there
run_contract-requires-clause-there c =
    contracts_moved c.args.world.now c.move_mutez.new.self c.args.from.now (place.Contract c.args.to.now) c.args.amount c.in-Ok.ensures.answer.2 c.args.to.now c.requires.due.2.there

pub with_growth-requires-clause-none : goal.with_growth-requires-clause-none
with_growth-requires-clause-none c = c.in_ok-ran-in-Ok.ensures.growth

pub with_growth-requires-clause-there : goal.with_growth-requires-clause-there
with_growth-requires-clause-there c =
    subst (λ (q : List ℕ). is_some (contract_at c.run_contract.new.world.funds.present q) ≡ true) (sym c.in_ok-ran-in-Ok.ensures.by)
    (c.in_ok-ran-in-Ok.ensures.contracts c.args.to.now
    (contracts_moved c.args.world.now c.move_mutez.new.self c.args.from.now (place.Contract c.args.to.now) c.args.amount c.in-Ok.ensures.answer.2 c.args.to.now c.requires.due.2.there))

pub returns-in_err-ran-in-Ok-clause-ends : goal.returns-in_err-ran-in-Ok-clause-ends
returns-in_err-ran-in-Ok-clause-ends c = λ w t a due.
    let m = c.in-Ok.ensures.answer in
    let s = setting_of (listed c.args.costs.now) c.args.counts.now.group c.args.source.now in
    let v = c.args.world.now in
    let z = c.move_mutez.new.self in
    let ready = due_ready v w s (counts_of c.args.counts.now) c.args.from.now c.args.to.now c.args.name.now c.args.amount c.args.argument t due c.requires.payer m.1 z c.in-Ok.ensures.others m.2 in
    let y = moved w (place_bytes c.args.from.now) (contract_place c.args.to.now) c.args.amount in
    let p = err_from_is_err_and c.from_residual.result c.from_residual.ensures.1 in
    rw (p.1, p.2)
    (covers v w s (counts_of c.args.counts.now) c.args.from.now c.args.to.now c.args.name.now c.args.amount c.args.argument t due c.requires.payer m.1 z c.in-Ok.ensures.others m.2
    a c.args.meter.now c.run_contract.new.meter c.args.counts.now c.run_contract.new.counts c.run_contract.new.world (Err c.in_err-ran-in-Ok.field-0.0)
    (runs_not z y s (counts_of c.args.counts.now) c.args.from.now c.args.to.now c.args.name.now c.args.amount c.args.argument t ready _
    c.args.meter.now c.run_contract.new.meter c.run_contract.new.world c.args.counts.now c.run_contract.new.counts c.in_err-ran-in-Ok.field-0.0
    (c.in_err-ran-in-Ok.ensures.ends y t ready)))

pub returns-in_err-ran-in-Ok-clause-keeps : goal.returns-in_err-ran-in-Ok-clause-keeps
returns-in_err-ran-in-Ok-clause-keeps c =
    let p = err_from_is_err_and c.from_residual.result c.from_residual.ensures.1 in
    rw (p.1, p.2) (with_memory (Err c.in_err-ran-in-Ok.field-0.0) (λ later. world_trans _ _ _ c.in-Ok.ensures.keeps later) c.in_err-ran-in-Ok.ensures.keeps)

pub returns-in_ok-ran-in-Ok-clause-ends : goal.returns-in_ok-ran-in-Ok-clause-ends
returns-in_ok-ran-in-Ok-clause-ends c = λ w t a due.
    let m = c.in-Ok.ensures.answer in
    let s = setting_of (listed c.args.costs.now) c.args.counts.now.group c.args.source.now in
    let v = c.args.world.now in
    let z = c.move_mutez.new.self in
    let ready = due_ready v w s (counts_of c.args.counts.now) c.args.from.now c.args.to.now c.args.name.now c.args.amount c.args.argument t due c.requires.payer m.1 z c.in-Ok.ensures.others m.2 in
    let y = moved w (place_bytes c.args.from.now) (contract_place c.args.to.now) c.args.amount in
    let ran = c.in_ok-ran-in-Ok.ran in
    covers v w s (counts_of c.args.counts.now) c.args.from.now c.args.to.now c.args.name.now c.args.amount c.args.argument t due c.requires.payer m.1 z c.in-Ok.ensures.others m.2
    a c.args.meter.now c.run_contract.new.meter c.args.counts.now c.run_contract.new.counts c.with_growth.new.world c.with_growth.result
    (runs_on z y s (counts_of c.args.counts.now) c.args.from.now c.args.to.now c.args.name.now c.args.amount c.args.argument t ready _
    c.args.meter.now c.run_contract.new.meter c.with_growth.new.world c.args.counts.now c.run_contract.new.counts ran.by c.with_growth.result c.in_ok-ran-in-Ok.ensures.by
    (c.with_growth.ensures.ends (listed c.args.costs.now) c.args.counts.now.group _ c.run_contract.new.meter c.args.counts.now c.run_contract.new.counts
    (grows_on z y s (counts_of c.args.counts.now) c.args.from.now c.args.to.now c.args.name.now c.args.amount c.args.argument t ready _
    c.args.meter.now c.run_contract.new.meter c.run_contract.new.world c.args.counts.now c.run_contract.new.counts ran (c.in_ok-ran-in-Ok.ensures.ends y t ready))))

pub returns-in_ok-ran-in-Ok-clause-bases : goal.returns-in_ok-ran-in-Ok-clause-bases
returns-in_ok-ran-in-Ok-clause-bases c =
    either_way c.with_growth.result
    (subst (λ (s : Stored). Extends c.args.world.now.store.bases.present s.bases.present) (sym c.with_growth.ensures.store)
    (subst (λ (x : World). Extends x.store.bases.present c.run_contract.new.world.store.bases.present) c.in-Ok.ensures.others c.in_ok-ran-in-Ok.ensures.bases))

pub returns-in_ok-ran-in-Ok-clause-contracts : goal.returns-in_ok-ran-in-Ok-clause-contracts
returns-in_ok-ran-in-Ok-clause-contracts c =
    either_way c.with_growth.result (λ hash there.
    c.with_growth.ensures.contracts hash (c.in_ok-ran-in-Ok.ensures.contracts hash
    (contracts_moved c.args.world.now c.move_mutez.new.self c.args.from.now (place.Contract c.args.to.now) c.args.amount c.in-Ok.ensures.answer.2 hash there)))

pub returns-in_ok-ran-in-Ok-clause-keeps : goal.returns-in_ok-ran-in-Ok-clause-keeps
returns-in_ok-ran-in-Ok-clause-keeps c =
    memory_either c.with_growth.result (world_trans _ _ _ c.in-Ok.ensures.keeps (world_trans _ _ _ c.in_ok-ran-in-Ok.ensures.keeps c.with_growth.ensures.keeps))

pub returns-in-Err-BalanceTooLow-clause-ends : goal.returns-in-Err-BalanceTooLow-clause-ends
returns-in-Err-BalanceTooLow-clause-ends c = λ w t a due.
    let low = rw c.in-Err-BalanceTooLow.field-0-is at c.in-Err-BalanceTooLow.ensures.answer in
    let s = setting_of (listed c.args.costs.now) c.args.counts.now.group c.args.source.now in
    not_covered c.args.world.now w s (counts_of c.args.counts.now) c.args.from.now c.args.to.now c.args.name.now c.args.amount c.args.argument t due
    a c.args.meter.now c.args.meter.now c.args.counts.now c.args.counts.now c.move_mutez.new.self failures.BalanceTooLow low.1 refl
