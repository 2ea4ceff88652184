use Rattle.mich_base.proofs.undo_lemmas.ForCallers.{keeps_to}
use Rattle.mich_world.proofs.funds.Funds.pay.Goals as goal

pub returns-clause-keeps : goal.returns-clause-keeps
returns-clause-keeps c = keeps_to _ _ _ c.in_ok-write.ensures.new
