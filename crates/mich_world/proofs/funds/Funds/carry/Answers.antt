use Rattle.mich_base.proofs.undo_lemmas.ForCallers.{keeps_to, keeps_trans, keeps_equal}
use Rattle.mich_world.proofs.funds.Funds.carry.Goals as goal

pub returns-clause-keeps : goal.returns-clause-keeps
returns-clause-keeps c = keeps_trans _ _ _ (c.in_ok-pay.ensures.keeps) (keeps_to _ _ _ c.in_ok-write.ensures.new)

pub returns-in_err-write-clause-keeps : goal.returns-in_err-write-clause-keeps
returns-in_err-write-clause-keeps c = keeps_trans _ _ _ (c.in_ok-pay.ensures.keeps) (keeps_equal _ _ c.in_err-write.ensures.unchanged)
