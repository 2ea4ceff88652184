use Rattle.mich_cert.proofs.SameTypes.{same_is}
use Rattle.mich_cert.proofs.same.same_kind.Goals as goal

pub returns : goal.returns
returns c = same_is c.same_type.result c.args.a.now c.args.b.now c.same_type.ensures
