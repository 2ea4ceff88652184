use Rattle.mich_base.proofs.undo_lemmas.ForCallers.{keeps_to, keeps_trans, keeps_equal}
use Rattle.mich_world.proofs.funds.Funds.endow.Goals as goal

pub returns-clause-keeps : goal.returns-clause-keeps
returns-clause-keeps c = keeps_trans _ _ _ (keeps_to _ _ _ c.in_ok-write_granted.ensures.new) (keeps_to _ _ _ c.in_ok-write_account.ensures.new)

pub returns-in_err-write_account-clause-keeps : goal.returns-in_err-write_account-clause-keeps
returns-in_err-write_account-clause-keeps c = keeps_trans _ _ _ (keeps_to _ _ _ c.in_ok-write_granted.ensures.new) (keeps_equal _ _ c.in_err-write_account.ensures.unchanged)
