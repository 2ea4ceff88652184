use Rattle.mich_blake.proofs.Feeding.{hasher_of-none}
use Rattle.mich_blake.proofs.hashers.Blake2b.new.Goals as goal

pub returns-clause-fed : goal.returns-clause-fed
returns-clause-fed c = hasher_of-none c.args.len
