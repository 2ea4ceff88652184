use Rattle.std.proofs.Common.{refl}
use Rattle.mich_world.proofs.Marks.{world_funds}
use Rattle.mich_world.proofs.world.World.pay_storage.Goals as goal

pub returns-clause-keeps : goal.returns-clause-keeps
returns-clause-keeps c = rw (← c.self.view_is) (world_funds _ _ refl c.pay_storage.ensures.keeps)
