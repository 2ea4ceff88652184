use Rattle.std.proofs.Common.{subst}
use Rattle.mich_world.specs.Marks.{KeepsWorld}
use Rattle.mich_world.specs.World.{World}
use Rattle.mich_world.proofs.Marks.{undone_is, world_same}
use Rattle.mich_world.proofs.Stored.{stored_same}
use Rattle.mich_world.proofs.world.World.install.Goals as goal

pub returns-then-is_err-clause-stored : goal.returns-then-is_err-clause-stored
returns-then-is_err-clause-stored c =
    let m = c.mark-mark.ensures in
    stored_same _ _ (undone_is c.mark-mark.result c.args.self.now c.put_contract.new.self c.undo_to.new.self m.mark
    (subst (λ (x : World). KeepsWorld x c.put_contract.new.self) m.same c.put_contract.ensures.keeps) c.undo_to.ensures.world)

pub returns-then-unwrap_or-amount-clause-keeps : goal.returns-then-unwrap_or-amount-clause-keeps
returns-then-unwrap_or-amount-clause-keeps c = world_same _
