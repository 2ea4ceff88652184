use Rattle.mich_replay.proofs.Happening.{came_new}
use Rattle.mich_replay.proofs.session.fresh.Goals as goal

pub returns : goal.returns
returns c = λ from h. came_new from _ _ c.new.ensures h c.none.ensures.costs c.none.ensures.started
