use Rattle.mich_cert.proofs.Listing.{rest_room, entries_failed, entries_step, entries_end}
use Rattle.mich_cert.proofs.reading.read_entries.Goals as goal

pub returns-in_default : goal.returns-in_default
returns-in_default c =
    entries_failed _ _ _ c.loop-node-test.true c.node-item.is _ _ c.loop-node.invariant.same (rw c.in_default.is at c.in_ok-entry.ensures)

pub loop-node-preserved : goal.loop-node-preserved
loop-node-preserved c =
    let v = c.loop-node.invariant in
    record {
      same = entries_step _ _ _ c.loop-node-test.true c.node-item.is _ _ _ c.in-Some.entry v.same c.in_ok-push.ensures.pushed (rw c.in-Some.is at c.in_ok-entry.ensures);
      room = (rest_room _ _ _ c.loop-node-test.true c.node-item.is _ v.room).1;
    }

pub returns : goal.returns
returns c = entries_end _ _ c.loop-node-test.false _ _ c.loop-node.invariant.same
