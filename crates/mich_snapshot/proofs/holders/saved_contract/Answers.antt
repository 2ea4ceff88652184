use Rattle.mich_snapshot.proofs.Trying.{alone_is}
use Rattle.mich_snapshot.proofs.holders.saved_contract.Goals as goal

pub returns-clause-alone : goal.returns-clause-alone
returns-clause-alone c = λ h.
    let alone = alone_is c.args.contract.storage c.in-Some.storage h c.in-Some.is in
    record { formed = alone.0; alone = alone.1 }
