use Rattle.mich_saved.proofs.Wholes.{some_made}
use Rattle.mich_saved.proofs.making.some_of.Goals as goal

pub returns-clause-whole : goal.returns-clause-whole
returns-clause-whole c = some_made c.args.value c.in-Some.value c.in_ok-new.field-0 c.in-Some.is c.in_ok-new.ensures
