use Rattle.mich_saved.proofs.Wholes.{pair_made}
use Rattle.mich_saved.proofs.making.pair_of.Goals as goal

pub returns-clause-whole : goal.returns-clause-whole
returns-clause-whole c = pair_made c.args.head c.args.last c.in-Some.head c.in_ok-head.head c.in-Some-last.last c.in_ok-last.last c.in-Some.is c.in_ok-head.ensures c.in-Some-last.is c.in_ok-last.ensures
