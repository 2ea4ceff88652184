use Rattle.std.proofs.Common.{Some}
use Rattle.mich_replay.proofs.Happening.{may_go_on}
use Rattle.mich_replay.proofs.session.Session.behind.Goals as goal

pub returns : goal.returns
returns c = λ p f few. c.fresh.ensures (Some p) (may_go_on c.args.course p f few)
