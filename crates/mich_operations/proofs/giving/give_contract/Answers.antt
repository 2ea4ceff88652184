use Rattle.std.proofs.Common.{Err, is_some, List, subst, sym, true, ◌∙◌, ◌≡◌, ℕ, ℤ}
use Rattle.std.specs.Int.{w128}
use Rattle.std.proofs.lemmas.Int.{to_z-of_z}
use Rattle.std.proofs.lemmas.Result.{err_from_is_err_and}
use Rattle.rules_world.specs.world.Gives.{give_effect}
use Rattle.rules_world.specs.world.Groups.{setting_of}
use Rattle.rules_world.specs.world.Holdings.{debited}
use Rattle.mich_bigmap.specs.Extended.{Extends}
use Rattle.mich_bigmap.specs.Layers.{BasedLayer}
use Rattle.mich_bigmap.specs.Standing.{val_in}
use Rattle.mich_bigmap.specs.Stored.{Stored}
use Rattle.mich_forms.specs.declared.places.Place.TheVariants as place
use Rattle.mich_gas.specs.View.{listed}
use Rattle.mich_machine.specs.Calls.{counts_of}
use Rattle.mich_term.specs.Layers.{FormedLayer}
use Rattle.mich_term.specs.declared.value.Value.TheVariants as values
use Rattle.mich_term.proofs.ForCallers.{of_ticket}
use Rattle.mich_world.specs.Holders.{contract_at}
use Rattle.mich_world.specs.World.{World}
use Rattle.mich_world.proofs.ForCallers.{world_trans}
use Rattle.mich_operations.specs.Calls.{before_growth, call_of}
use Rattle.mich_operations.specs.Gifts.{IsTakenFrom, gift, tickets_of}
use Rattle.mich_operations.specs.Going.{EndsAs}
use Rattle.mich_operations.proofs.Bestowals.{contract_there, gift_ready, gives_contract, not_wanted, untaken_contract}
use Rattle.mich_operations.proofs.Credited.{contracts_ledger, hosting_ledger, kept_either}
use Rattle.mich_operations.proofs.Growths.{either_way}
use Rattle.mich_operations.proofs.Issuing.{keeps_either}
use Rattle.mich_operations.proofs.Ran.{grows_on, memory_either, runs_not, runs_on, with_memory}
use Rattle.mich_operations.proofs.giving.give_contract.Goals as goal

pub returns-in_err-wants-clause-ends : goal.returns-in_err-wants-clause-ends
returns-in_err-wants-clause-ends c = λ w due.
    let v = c.args.world.now in
    let p = err_from_is_err_and c.from_residual.result c.from_residual.ensures.1 in
    rw (p.1, p.2)
    (not_wanted v w (listed c.args.costs.now) c.args.counts.now.group c.args.source.now (counts_of c.args.counts.now) c.args.id.now c.args.amount c.args.to.now c.args.name.now due
    c.args.meter.now c.args.meter.now c.args.counts.now c.args.counts.now v c.in_err-wants.field-0.0 (c.in_err-wants.ensures w due.given.stands))

pub returns-in_err-ticket-clause-ends : goal.returns-in_err-ticket-clause-ends
returns-in_err-ticket-clause-ends c = λ w due.
    let v = c.args.world.now in
    let q = c.in_ok-wants.ensures w due.given.stands in
    let p = err_from_is_err_and c.from_residual-in_err-ticket.result c.from_residual-in_err-ticket.ensures.1 in
    rw (p.1, p.2)
    (untaken_contract v w (listed c.args.costs.now) c.args.counts.now.group c.args.source.now (counts_of c.args.counts.now) c.args.id.now c.args.amount c.args.to.now c.args.name.now due
    q.0 q.1 q.2 c.take.new.world c.in_err-ticket.field-0.0 (subst (λ (n : ℤ). IsTakenFrom c.args.source.now c.args.id.now n v c.take.new.world (Err c.in_err-ticket.field-0.0)) (to_z-of_z w128 c.args.amount c.ranges.amount) c.in_err-ticket.ensures.taken)
    c.args.meter.now c.args.meter.now c.args.counts.now c.args.counts.now c.take.new.world)

pub run_gift-requires-clause-ready : goal.run_gift-requires-clause-ready
run_gift-requires-clause-ready c =
    let v = c.args.world.now in
    let d = c.requires.due in
    let q = c.in_ok-wants.ensures d.0 d.1.given.stands in
    let e = to_z-of_z w128 c.args.amount c.ranges.amount in
    let t = rw e at c.in_ok-ticket.ensures.taken in (
      debited d.0 c.args.source.now (tickets_of c.args.id.now c.args.amount),
      q.0,
      gift_ready v d.0 (listed c.args.costs.now) c.args.counts.now.group c.args.source.now (counts_of c.args.counts.now) c.args.id.now c.args.amount c.args.to.now c.args.name.now d.1
          q.0 q.1 q.2 t.0 c.take.new.world c.in_ok-ticket.ensures.world t.2 c.in_ok-new.field-0 (c.in_ok-new.ensures ∙ t.1),
    )

pub run_gift-requires-clause-hosting : goal.run_gift-requires-clause-hosting
run_gift-requires-clause-hosting c = hosting_ledger c.args.world.now c.take.new.world c.in_ok-ticket.ensures.world c.requires.hosting

pub run_gift-requires-clause-there : goal.run_gift-requires-clause-there
run_gift-requires-clause-there c =
    let v = c.args.world.now in
    let d = c.requires.due in
    let q = c.in_ok-wants.ensures d.0 d.1.given.stands in
    contracts_ledger v c.take.new.world c.in_ok-ticket.ensures.world c.args.to.now
    (contract_there v d.0 (listed c.args.costs.now) c.args.counts.now.group c.args.source.now (counts_of c.args.counts.now) c.args.id.now c.args.amount c.args.to.now c.args.name.now d.1 q.0 q.1 q.2)

pub run_gift-requires-clause-formed : goal.run_gift-requires-clause-formed
run_gift-requires-clause-formed c = of_ticket FormedLayer c.in_ok-new.field-0

pub run_gift-requires-clause-based : goal.run_gift-requires-clause-based
run_gift-requires-clause-based c = of_ticket (BasedLayer c.take.new.world.store.bases.present) c.in_ok-new.field-0

pub with_growth-requires-clause-none : goal.with_growth-requires-clause-none
with_growth-requires-clause-none c = c.in_ok-ran.ensures.growth

pub with_growth-requires-clause-there : goal.with_growth-requires-clause-there
with_growth-requires-clause-there c =
    let v = c.args.world.now in
    let d = c.requires.due in
    let q = c.in_ok-wants.ensures d.0 d.1.given.stands in
    subst (λ (h : List ℕ). is_some (contract_at c.run_gift.new.world.funds.present h) ≡ true) (sym c.in_ok-ran.ensures.by)
    (c.in_ok-ran.ensures.contracts c.args.to.now
    (contracts_ledger v c.take.new.world c.in_ok-ticket.ensures.world c.args.to.now
    (contract_there v d.0 (listed c.args.costs.now) c.args.counts.now.group c.args.source.now (counts_of c.args.counts.now) c.args.id.now c.args.amount c.args.to.now c.args.name.now d.1 q.0 q.1 q.2)))

pub returns-in_err-ran-clause-ends : goal.returns-in_err-ran-clause-ends
returns-in_err-ran-clause-ends c = λ w due.
    let v = c.args.world.now in
    let s = setting_of (listed c.args.costs.now) c.args.counts.now.group c.args.source.now in
    let q = c.in_ok-wants.ensures w due.given.stands in
    let e = to_z-of_z w128 c.args.amount c.ranges.amount in
    let t = rw e at c.in_ok-ticket.ensures.taken in
    let y = debited w c.args.source.now (tickets_of c.args.id.now c.args.amount) in
    let ready = gift_ready v w (listed c.args.costs.now) c.args.counts.now.group c.args.source.now (counts_of c.args.counts.now) c.args.id.now c.args.amount c.args.to.now c.args.name.now due
    q.0 q.1 q.2 t.0 c.take.new.world c.in_ok-ticket.ensures.world t.2 c.in_ok-new.field-0 (c.in_ok-new.ensures ∙ t.1) in
    let p = err_from_is_err_and c.from_residual-in_err-ran.result c.from_residual-in_err-ran.ensures.1 in
    rw (p.1, p.2)
    (gives_contract v w (listed c.args.costs.now) c.args.counts.now.group c.args.source.now (counts_of c.args.counts.now) c.args.id.now c.args.amount c.args.to.now c.args.name.now due
    q.0 q.1 q.2 t.0 c.take.new.world c.in_ok-ticket.ensures.world t.2 c.in_ok-new.field-0 (c.in_ok-new.ensures ∙ t.1)
    c.args.meter.now c.run_gift.new.meter c.args.counts.now c.run_gift.new.counts c.run_gift.new.world (Err c.in_err-ran.field-0.0)
    (runs_not c.take.new.world y s (counts_of c.args.counts.now) (place.Implicit c.args.source.now) c.args.to.now c.args.name.now 0 (values.Ticket c.in_ok-new.field-0) q.0 ready _
    c.args.meter.now c.run_gift.new.meter c.run_gift.new.world c.args.counts.now c.run_gift.new.counts c.in_err-ran.field-0.0
    (subst (λ (n : ℤ). EndsAs
    (before_growth s y (call_of (place.Implicit c.args.source.now) 0 q.0 (val_in c.take.new.world.store.bases.present (values.Ticket c.in_ok-new.field-0))) c.args.meter.now (counts_of c.args.counts.now)
    (give_effect s (gift (tickets_of c.args.id.now n) (place.Contract c.args.to.now) c.args.name.now)))
    c.run_gift.new.world c.run_gift.new.meter c.args.counts.now c.run_gift.new.counts (Err c.in_err-ran.field-0.0)) e (c.in_err-ran.ensures.ends y q.0 ready))))

pub returns-clause-ends : goal.returns-clause-ends
returns-clause-ends c = λ w due.
    let v = c.args.world.now in
    let s = setting_of (listed c.args.costs.now) c.args.counts.now.group c.args.source.now in
    let q = c.in_ok-wants.ensures w due.given.stands in
    let e = to_z-of_z w128 c.args.amount c.ranges.amount in
    let t = rw e at c.in_ok-ticket.ensures.taken in
    let y = debited w c.args.source.now (tickets_of c.args.id.now c.args.amount) in
    let ready = gift_ready v w (listed c.args.costs.now) c.args.counts.now.group c.args.source.now (counts_of c.args.counts.now) c.args.id.now c.args.amount c.args.to.now c.args.name.now due
    q.0 q.1 q.2 t.0 c.take.new.world c.in_ok-ticket.ensures.world t.2 c.in_ok-new.field-0 (c.in_ok-new.ensures ∙ t.1) in
    let x = values.Ticket c.in_ok-new.field-0 in
    let ran = c.in_ok-ran.ran in
    gives_contract v w (listed c.args.costs.now) c.args.counts.now.group c.args.source.now (counts_of c.args.counts.now) c.args.id.now c.args.amount c.args.to.now c.args.name.now due
    q.0 q.1 q.2 t.0 c.take.new.world c.in_ok-ticket.ensures.world t.2 c.in_ok-new.field-0 (c.in_ok-new.ensures ∙ t.1)
    c.args.meter.now c.run_gift.new.meter c.args.counts.now c.run_gift.new.counts c.with_growth.new.world c.with_growth.result
    (runs_on c.take.new.world y s (counts_of c.args.counts.now) (place.Implicit c.args.source.now) c.args.to.now c.args.name.now 0 x q.0 ready _
    c.args.meter.now c.run_gift.new.meter c.with_growth.new.world c.args.counts.now c.run_gift.new.counts ran.by c.with_growth.result c.in_ok-ran.ensures.by
    (c.with_growth.ensures.ends (listed c.args.costs.now) c.args.counts.now.group _ c.run_gift.new.meter c.args.counts.now c.run_gift.new.counts
    (grows_on c.take.new.world y s (counts_of c.args.counts.now) (place.Implicit c.args.source.now) c.args.to.now c.args.name.now 0 x q.0 ready _
    c.args.meter.now c.run_gift.new.meter c.run_gift.new.world c.args.counts.now c.run_gift.new.counts ran (rw e at (c.in_ok-ran.ensures.ends y q.0 ready)))))

pub returns-clause-bases : goal.returns-clause-bases
returns-clause-bases c =
    either_way c.with_growth.result
    (subst (λ (s : Stored). Extends c.args.world.now.store.bases.present s.bases.present) (sym c.with_growth.ensures.store)
    (subst (λ (x : World). Extends x.store.bases.present c.run_gift.new.world.store.bases.present) c.in_ok-ticket.ensures.world c.in_ok-ran.ensures.bases))

pub returns-clause-contracts : goal.returns-clause-contracts
returns-clause-contracts c =
    either_way c.with_growth.result (λ hash there.
    c.with_growth.ensures.contracts hash (c.in_ok-ran.ensures.contracts hash (contracts_ledger c.args.world.now c.take.new.world c.in_ok-ticket.ensures.world hash there)))

pub returns-clause-keeps : goal.returns-clause-keeps
returns-clause-keeps c =
    memory_either c.with_growth.result (world_trans _ _ _ c.in_ok-ticket.ensures.keeps (world_trans _ _ _ c.in_ok-ran.ensures.keeps c.with_growth.ensures.keeps))

pub returns-in_err-ran-clause-keeps : goal.returns-in_err-ran-clause-keeps
returns-in_err-ran-clause-keeps c =
    let p = err_from_is_err_and c.from_residual-in_err-ran.result c.from_residual-in_err-ran.ensures.1 in
    rw (p.1, p.2) (with_memory (Err c.in_err-ran.field-0.0) (λ later. world_trans _ _ _ c.in_ok-ticket.ensures.keeps later) c.in_err-ran.ensures.keeps)

pub returns-in_err-wants-clause-keeps : goal.returns-in_err-wants-clause-keeps
returns-in_err-wants-clause-keeps c = keeps_either c.from_residual.result c.args.world.now

pub returns-in_err-ticket-clause-keeps : goal.returns-in_err-ticket-clause-keeps
returns-in_err-ticket-clause-keeps c = kept_either c.from_residual-in_err-ticket.result c.args.world.now c.take.new.world c.in_err-ticket.ensures.keeps
