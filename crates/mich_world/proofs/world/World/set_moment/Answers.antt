use Rattle.mich_world.proofs.Marks.{world_clock}
use Rattle.mich_world.proofs.world.World.set_moment.Goals as goal

pub returns-clause-keeps : goal.returns-clause-keeps
returns-clause-keeps c = rw (← c.self.view_is) (world_clock _ _ _)
