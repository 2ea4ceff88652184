use Rattle.std.specs.BTreeMap.{is_at}
use Rattle.mich_world.specs.Holders.{by_bytes}
use Rattle.mich_world.specs.declared.contract.Contract.{Contract}
use Rattle.mich_world.proofs.Sums.{part_least, inserted}
use Rattle.mich_world.proofs.maps.put_contract.Goals as goal

pub returns-clause-sum : goal.returns-clause-sum
returns-clause-sum c =
    let e = c.in_ok-old.ensures in
    rw e.new (inserted (λ (x : Contract). x.balance) c.args.contracts.now.entries c.args.hash c.args.contract _ e.ordered e.old)

pub returns-clause-within : goal.returns-clause-within
returns-clause-within c =
    rw c.in_ok-old.ensures.old (part_least (λ (x : Contract). x.balance) (is_at (by_bytes c.args.hash)) c.args.contracts.now.entries)
