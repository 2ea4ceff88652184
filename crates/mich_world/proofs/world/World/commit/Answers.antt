use Rattle.std.proofs.Common.{subst}
use Rattle.mich_world.specs.Marks.{KeepsWorld}
use Rattle.mich_world.specs.World.{World}
use Rattle.mich_world.proofs.Marks.{undone_is}
use Rattle.mich_world.proofs.Stored.{stored_same}
use Rattle.mich_world.proofs.world.World.commit.Goals as goal

pub returns-then-is_err-clause-stored : goal.returns-then-is_err-clause-stored
returns-then-is_err-clause-stored c =
    let m = c.mark-mark.ensures in
    stored_same _ _ (undone_is c.mark-mark.result c.args.self.now c.put_storage.new.self c.undo_to.new.self m.mark
    (subst (λ (x : World). KeepsWorld x c.put_storage.new.self) m.same c.put_storage.ensures.keeps) c.undo_to.ensures.world)
