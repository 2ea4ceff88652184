use Rattle.std.proofs.Common.{refl}
use Rattle.mich_base.proofs.undo_lemmas.ForCallers.{keeps_same, keeps_trans}
use Rattle.mich_world.proofs.Marks.{keeps_parts}
use Rattle.mich_world.proofs.world.World.put_storage.Goals as goal

pub returns-in_err-enter-clause-keeps : goal.returns-in_err-enter-clause-keeps
returns-in_err-enter-clause-keeps c =
    rw (← c.self.view_is)
    (keeps_parts _ _ refl (keeps_same _) (keeps_trans _ _ _ c.in_ok-leave.ensures.keeps c.in_err-enter.ensures.keeps) (keeps_same _))

pub returns-in_err-storage-clause-keeps : goal.returns-in_err-storage-clause-keeps
returns-in_err-storage-clause-keeps c =
    rw (← c.self.view_is)
    (keeps_parts _ _ refl (keeps_same _) (keeps_trans _ _ _ c.in_ok-leave.ensures.keeps c.in_ok-enter.ensures.keeps) c.in_err-storage.ensures.lays.keeps)

pub returns-in_err-commit-clause-keeps : goal.returns-in_err-commit-clause-keeps
returns-in_err-commit-clause-keeps c =
    rw (← c.self.view_is)
    (keeps_parts _ _ refl c.in_err-commit.ensures.keeps (keeps_trans _ _ _ c.in_ok-leave.ensures.keeps c.in_ok-enter.ensures.keeps) c.in_ok-storage.ensures.lays.keeps)

pub returns-clause-keeps : goal.returns-clause-keeps
returns-clause-keeps c =
    rw (← c.self.view_is)
    (keeps_parts _ _ refl c.in_ok-commit.ensures.keeps (keeps_trans _ _ _ c.in_ok-leave.ensures.keeps c.in_ok-enter.ensures.keeps) c.in_ok-storage.ensures.lays.keeps)
