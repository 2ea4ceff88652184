use Rattle.std.proofs.Common.{None}
use Rattle.mich_replay.proofs.Happening.{may_begin}
use Rattle.mich_replay.proofs.session.Session.new.Goals as goal

pub returns : goal.returns
returns c = c.fresh.ensures None may_begin
