use Rattle.std.proofs.Common.{sym, ◌∙◌}
use Rattle.mich_control.proofs.Views.{code_straight}
use Rattle.mich_control.proofs.Written.{transfer_view, transfer_fault, transfer_made}
use Rattle.mich_control.proofs.leaves.check_transfer.Goals as goal

pub returns-then-is_view : goal.returns-then-is_view
returns-then-is_view c = transfer_view _ _ _ _ _ _ c.requires.form (sym c.is_view.ensures ∙ c.if-is_view.true)

pub returns-in-Ok : goal.returns-in-Ok
returns-in-Ok c =
    transfer_made _ _ _ _ _ _ c.requires.form (sym c.is_view.ensures ∙ c.if-is_view.false) _ c.in-Ok.after _ _ c.in-Ok.ensures (code_straight _ _) c.in_ok-written.ensures

pub returns-in-Err-Fault : goal.returns-in-Err-Fault
returns-in-Err-Fault c =
    transfer_fault _ _ _ _ _ _ c.requires.form (sym c.is_view.ensures ∙ c.if-is_view.false) _ (rw c.in-Err-Fault.field-0-is at c.in-Err-Fault.ensures)
