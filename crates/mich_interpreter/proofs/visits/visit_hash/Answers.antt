use Rattle.std.proofs.Common.{◌≡◌, length, sym, arith}
use Rattle.mich_base.specs.TypeView.{kind}
use Rattle.mich_interpreter.proofs.Visited.{contract_views, nobody_views}
use Rattle.mich_interpreter.proofs.visits.visit_hash.Goals as goal

pub returns-in_ok-visit_contract-in-Some : goal.returns-in_ok-visit_contract-in-Some
returns-in_ok-visit_contract-in-Some c = λ x s.
    let twenty : length c.args.hash ≡ 20 = omega (arith, c.well_formed) in
    contract_views c.args.world.now x s c.args.hash c.args.entrypoint c.args.name.now (kind c.args.input.now) (kind c.args.output.now) twenty c.in-Some.contract.now (sym c.in-Some.ensures) _ c.in_ok-visit_contract-in-Some.ensures

pub returns-in-None : goal.returns-in-None
returns-in-None c = λ x s.
    let twenty : length c.args.hash ≡ 20 = omega (arith, c.well_formed) in
    nobody_views c.args.world.now x s c.args.hash c.args.entrypoint c.args.name.now (kind c.args.input.now) (kind c.args.output.now) twenty (sym c.in-None.ensures)
