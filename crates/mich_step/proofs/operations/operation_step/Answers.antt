use Rattle.std.proofs.Common.{sym, subst}
use Rattle.mich_overload.specs.View.{operation_row}
use Rattle.mich_stack.specs.Ends.{IsKept}
use Rattle.mich_stack.specs.Views.{values}
use Rattle.mich_step.specs.Rule.{operation_step}
use Rattle.mich_step.proofs.operations.operation_step.Goals as goal

pub returns-in-Address : goal.returns-in-Address
returns-in-Address c = λ big. subst (λ q. IsKept (operation_step (operation_row q) (values big c.args.stack.now)) (values big c.address.new.stack) c.address.result) (sym c.in-Address.is) (c.address.ensures big)

pub returns-in-ImplicitAccount : goal.returns-in-ImplicitAccount
returns-in-ImplicitAccount c = λ big. subst (λ q. IsKept (operation_step (operation_row q) (values big c.args.stack.now)) (values big c.implicit_account.new.stack) c.implicit_account.result) (sym c.in-ImplicitAccount.is) (c.implicit_account.ensures big)
