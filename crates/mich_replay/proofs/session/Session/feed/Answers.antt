use Rattle.std.proofs.Common.{◌++◌, subst, sym}
use Rattle.mich_text.specs.pieces.Held.{Held}
use Rattle.mich_replay.specs.Coming.{Came}
use Rattle.mich_replay.proofs.Coming.{not_ended}
use Rattle.mich_replay.proofs.Happening.{came_fed}
use Rattle.mich_replay.proofs.session.Session.feed.Goals as goal

pub feed-requires : goal.feed-requires
feed-requires c = let q = c.requires in not_ended q.0 q.1 q.3.statements q.2 q.3.plain c.args.self.now.reader q.3.reads

pub returns : goal.returns
returns c = λ from fed receipts last h.
    let old = c.args.self.now in
    subst (λ (x : Held). Came from (fed ++ c.args.piece.now) last x old.progress receipts) (sym c.in_ok-feed.ensures.fed) (came_fed from fed c.args.piece.now last old.reader old.progress receipts h)
