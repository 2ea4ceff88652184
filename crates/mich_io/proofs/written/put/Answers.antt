use Rattle.mich_io.proofs.Fronts.{front_kept}
use Rattle.mich_io.proofs.written.put.Goals as goal

pub returns-else-flushed-clause-front : goal.returns-else-flushed-clause-front
returns-else-flushed-clause-front g c =
    let contents = g.W.Write.contents in
    front_kept (contents c.args.out.now) (contents c.write.new.self) (contents c.flush.new.self) c.args.bytes.now c.in-Ok.count c.in-Ok.ensures.bytes c.flush.ensures.bytes
