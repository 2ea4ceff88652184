use Rattle.mich_saved.proofs.Wholes.{left_made}
use Rattle.mich_saved.proofs.making.left_of.Goals as goal

pub returns-clause-whole : goal.returns-clause-whole
returns-clause-whole c = left_made c.args.value c.in-Some.value c.in_ok-new.field-0 c.in-Some.is c.in_ok-new.ensures
