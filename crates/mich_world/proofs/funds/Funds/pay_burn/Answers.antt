use Rattle.mich_base.proofs.undo_lemmas.ForCallers.{keeps_to, keeps_trans, keeps_equal}
use Rattle.mich_world.proofs.funds.Funds.pay_burn.Goals as goal

pub returns-clause-keeps : goal.returns-clause-keeps
returns-clause-keeps c =
    keeps_trans _ _ _ (c.in_ok-pay.ensures.keeps) (keeps_trans _ _ _ (keeps_to _ _ _ c.in_ok-write_storage_burn.ensures.new) (keeps_to _ _ _ c.in_ok-write_paid.ensures.new))

pub returns-in_err-write_storage_burn-clause-keeps : goal.returns-in_err-write_storage_burn-clause-keeps
returns-in_err-write_storage_burn-clause-keeps c = keeps_trans _ _ _ (c.in_ok-pay.ensures.keeps) (keeps_equal _ _ c.in_err-write_storage_burn.ensures.unchanged)

pub returns-in_err-write_paid-clause-keeps : goal.returns-in_err-write_paid-clause-keeps
returns-in_err-write_paid-clause-keeps c =
    keeps_trans _ _ _ (c.in_ok-pay.ensures.keeps) (keeps_trans _ _ _ (keeps_to _ _ _ c.in_ok-write_storage_burn.ensures.new) (keeps_equal _ _ c.in_err-write_paid.ensures.unchanged))
