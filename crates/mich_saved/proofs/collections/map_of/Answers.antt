use Rattle.mich_saved.proofs.Wholes.{map_made}
use Rattle.mich_saved.proofs.collections.map_of.Goals as goal

pub returns-clause-whole : goal.returns-clause-whole
returns-clause-whole c = map_made c.args.entries c.in-Some.entries c.in_ok-kept.kept c.in_ok-new.field-0 c.in-Some.is c.in_ok-kept.ensures c.in_ok-new.ensures
