use Rattle.mich_audit.specs.View.{part_seen}
use Rattle.mich_audit.proofs.Kept.{part_put}
use Rattle.mich_audit.proofs.book.add_part.Goals as goal

pub returns : goal.returns
returns c = λ ps ls kept form.
    part_put ps ls c.args.book.now.entries c.insert.new.self.entries (part_seen c.args.part.now) c.sums_at.result c.with-sums.result c.in_ok-key.key c.in_ok-key.ensures form
    c.in_ok-insert.ensures.updates.0 c.sums_at.ensures c.with-sums.ensures kept
