use Rattle.std.proofs.Common.{refl}
use Rattle.mich_audit.specs.View.{identity_seen}
use Rattle.mich_audit.proofs.Kept.{line_there, line_put}
use Rattle.mich_audit.proofs.book.take_line.Goals as goal

pub returns-then-sums : goal.returns-then-sums
returns-then-sums c = λ ps ls kept form m b h.
    line_there ps ls c.args.book.now.entries (identity_seen c.args.id.now) m b h c.sums_at-sums.result c.in_ok-key.key c.in_ok-key.ensures form c.sums_at-sums.ensures kept c.if-sums.true

pub returns : goal.returns
returns c = λ ps ls kept form m b h.
    line_put ps ls c.args.book.now.entries (identity_seen c.args.id.now) m b h c.sums_at-sums.result c.in_ok-key.key c.in_ok-key.ensures form c.sums_at-sums.ensures kept
    c.insert.new.self.entries _ c.in_ok-insert.ensures.updates.0 refl refl refl refl c.if-sums.false
