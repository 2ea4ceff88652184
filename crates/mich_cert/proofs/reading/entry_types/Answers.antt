use Rattle.mich_cert.proofs.Listing.{rest_room, types_failed, types_step, types_end, stack_push}
use Rattle.mich_cert.proofs.reading.entry_types.Goals as goal

pub returns-in_default : goal.returns-in_default
returns-in_default c =
    types_failed _ _ _ c.loop-node-test.true c.node-item.is _ _ c.loop-node.invariant.same (rw c.in_default.is at c.in_ok-ty.ensures)

pub loop-node-preserved : goal.loop-node-preserved
loop-node-preserved c =
    let v = c.loop-node.invariant in
    let t = rw c.in-Some.is at c.in_ok-ty.ensures in
    record {
      same = types_step _ _ _ c.loop-node-test.true c.node-item.is _ _ _ c.in-Some.ty v.same c.in_ok-push.ensures.pushed t.0;
      small = stack_push _ _ c.in-Some.ty c.in_ok-push.ensures.pushed v.small t.1;
      room = (rest_room _ _ _ c.loop-node-test.true c.node-item.is _ v.room).1;
    }

pub returns : goal.returns
returns c = types_end _ _ c.loop-node-test.false _ _ c.loop-node.invariant.same
