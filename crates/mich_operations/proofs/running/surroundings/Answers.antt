use Rattle.std.proofs.Common.{rules, arith, ◌≡◌, length}
use Rattle.mich_operations.proofs.Ran.{surrounds}
use Rattle.mich_operations.proofs.running.surroundings.Goals as goal

pub returns-clause-environment : goal.returns-clause-environment
returns-clause-environment c = λ w prices group t x stands hash.
    let twenty : length c.args.to ≡ 20 = first_of (search rules, omega (arith, c.well_formed)) in
    surrounds c.args.world.now w prices group c.args.source.now c.args.from.now c.args.to c.args.amount t x _ _ _ _ stands hash twenty
    c.clock-chain.ensures.chain c.clock-chain.ensures.level (search rules) (search rules)
