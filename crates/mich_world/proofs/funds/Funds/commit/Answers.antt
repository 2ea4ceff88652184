use Rattle.mich_base.proofs.undo_lemmas.ForCallers.{keeps_to}
use Rattle.mich_world.proofs.funds.Funds.commit.Goals as goal

pub returns-clause-keeps : goal.returns-clause-keeps
returns-clause-keeps c = keeps_to _ _ _ c.in_ok-write_storage.ensures.new
