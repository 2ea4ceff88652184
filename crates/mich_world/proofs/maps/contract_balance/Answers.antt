use Rattle.std.proofs.Common.{sym}
use Rattle.std.specs.BTreeMap.{is_at}
use Rattle.mich_world.specs.declared.contract.Contract.{Contract}
use Rattle.mich_world.specs.Holders.{by_bytes}
use Rattle.mich_world.proofs.Sums.{part_least}
use Rattle.mich_world.proofs.maps.contract_balance.Goals as goal

pub returns-in-Some-clause-within : goal.returns-in-Some-clause-within
returns-in-Some-clause-within c =
    let least = part_least (λ (x : Contract). x.balance) (is_at (by_bytes c.args.hash.now)) c.args.contracts.now.entries in
    rw (sym c.in-Some.ensures.value) at least
