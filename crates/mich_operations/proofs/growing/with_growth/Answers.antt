use Rattle.std.proofs.Common.{ap}
use Rattle.std.proofs.lemmas.Result.{err_from_is_err_and}
use Rattle.rules_world.specs.world.Groups.{setting_of}
use Rattle.mich_world.specs.World.{World}
use Rattle.mich_operations.proofs.Growths.{contracts_paid, grows, grows_not, hosting_paid}
use Rattle.mich_operations.proofs.growing.with_growth.Goals as goal

pub charge-requires : goal.charge-requires
charge-requires c = c.requires.there

pub returns-in_err-growth-clause-ends : goal.returns-in_err-growth-clause-ends
returns-in_err-growth-clause-ends c = λ prices group o gas old now g.
    let pays = c.in_err-growth.ensures.pays in
    let p = err_from_is_err_and c.from_residual.result c.from_residual.ensures.1 in
    rw (p.1, p.2)
    (grows_not c.args.world.now c.charge.new.world (setting_of prices group c.args.source.now) o gas old now c.args.applied g c.requires.none
    (ap (λ (y : World). y.store) pays.others) (contracts_paid c.args.world.now c.charge.new.world c.args.source.now c.args.applied.by pays)
    c.in_err-growth.field-0.0 c.in_err-growth.ensures.charges)

pub returns-in_err-growth-clause-store : goal.returns-in_err-growth-clause-store
returns-in_err-growth-clause-store c = ap (λ (y : World). y.store) c.in_err-growth.ensures.pays.others

pub returns-in_err-growth-clause-contracts : goal.returns-in_err-growth-clause-contracts
returns-in_err-growth-clause-contracts c = contracts_paid c.args.world.now c.charge.new.world c.args.source.now c.args.applied.by c.in_err-growth.ensures.pays

pub returns-clause-ends : goal.returns-clause-ends
returns-clause-ends c = λ prices group o gas old now g.
    let pays = c.in_ok-growth.ensures.pays in
    grows c.args.world.now c.charge.new.world (setting_of prices group c.args.source.now) o gas old now c.args.applied g c.requires.none
    (ap (λ (y : World). y.store) pays.others) (contracts_paid c.args.world.now c.charge.new.world c.args.source.now c.args.applied.by pays)
    c.in_ok-growth.growth c.in_ok-growth.ensures.charges

pub returns-clause-hosting : goal.returns-clause-hosting
returns-clause-hosting c = hosting_paid c.args.world.now c.charge.new.world c.args.source.now c.args.applied.by c.in_ok-growth.ensures.pays c.requires.hosting

pub returns-clause-store : goal.returns-clause-store
returns-clause-store c = ap (λ (y : World). y.store) c.in_ok-growth.ensures.pays.others

pub returns-clause-contracts : goal.returns-clause-contracts
returns-clause-contracts c = contracts_paid c.args.world.now c.charge.new.world c.args.source.now c.args.applied.by c.in_ok-growth.ensures.pays
