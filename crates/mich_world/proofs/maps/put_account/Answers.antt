use Rattle.std.specs.BTreeMap.{is_at}
use Rattle.mich_world.specs.Holders.{by_bytes}
use Rattle.mich_world.proofs.Sums.{number_least, number_inserted}
use Rattle.mich_world.proofs.maps.put_account.Goals as goal

pub returns-clause-sum : goal.returns-clause-sum
returns-clause-sum c =
    let e = c.in_ok-old.ensures in
    rw e.new (number_inserted c.args.accounts.now.entries c.args.who c.args.mutez _ e.ordered e.old)

pub returns-clause-within : goal.returns-clause-within
returns-clause-within c =
    rw c.in_ok-old.ensures.old (number_least (is_at (by_bytes c.args.who)) c.args.accounts.now.entries)
