use Rattle.std.proofs.Common.{sym, subst}
use Rattle.rules_code.specs.steps.Stack.{stack_step}
use Rattle.mich_overload.specs.View.{stack_row}
use Rattle.mich_stack.specs.Ends.{IsEnd}
use Rattle.mich_stack.specs.Views.{values}
use Rattle.mich_step.proofs.Ended.{kept_ends}
use Rattle.mich_step.proofs.order.stack_step.Goals as goal

pub returns-in-Drop-clause-ends : goal.returns-in-Drop-clause-ends
returns-in-Drop-clause-ends g c = λ big. subst (λ q. IsEnd (stack_step (stack_row q) (values big c.args.stack.now)) (values big c.drop_count.new.stack) c.drop_count.result) (sym c.in-Drop.is) (c.drop_count.ensures.ends big)

pub returns-in-Dup-clause-ends : goal.returns-in-Dup-clause-ends
returns-in-Dup-clause-ends g c = λ big. subst (λ q. IsEnd (stack_step (stack_row q) (values big c.args.stack.now)) (values big c.dup_value.new.stack) c.dup_value.result) (sym c.in-Dup.is)
    (kept_ends _ _ _ (c.dup_value.ensures big))

pub returns-in-Swap-clause-ends : goal.returns-in-Swap-clause-ends
returns-in-Swap-clause-ends g c = λ big. subst (λ q. IsEnd (stack_step (stack_row q) (values big c.args.stack.now)) (values big c.swap.new.stack) c.swap.result) (sym c.in-Swap.is)
    (kept_ends _ _ _ (c.swap.ensures big))

pub returns-in-Dig-clause-ends : goal.returns-in-Dig-clause-ends
returns-in-Dig-clause-ends g c = λ big. subst (λ q. IsEnd (stack_step (stack_row q) (values big c.args.stack.now)) (values big c.dig.new.stack) c.dig.result) (sym c.in-Dig.is)
    (kept_ends _ _ _ (c.dig.ensures big))

pub returns-in-Dug-clause-ends : goal.returns-in-Dug-clause-ends
returns-in-Dug-clause-ends g c = λ big. subst (λ q. IsEnd (stack_step (stack_row q) (values big c.args.stack.now)) (values big c.dug.new.stack) c.dug.result) (sym c.in-Dug.is)
    (kept_ends _ _ _ (c.dug.ensures big))

pub returns-in-Unit-clause-ends : goal.returns-in-Unit-clause-ends
returns-in-Unit-clause-ends g c = λ big. subst (λ q. IsEnd (stack_step (stack_row q) (values big c.args.stack.now)) (values big c.unit.new.stack) c.unit.result) (sym c.in-Unit.is)
    (kept_ends _ _ _ (c.unit.ensures big))

pub returns-in-Cast-clause-ends : goal.returns-in-Cast-clause-ends
returns-in-Cast-clause-ends g c = λ big. subst (λ q. IsEnd (stack_step (stack_row q) (values big c.args.stack.now)) (values big c.cast.new.stack) c.cast.result) (sym c.in-Cast.is)
    (kept_ends _ _ _ (c.cast.ensures big))

pub returns-in-Rename-clause-ends : goal.returns-in-Rename-clause-ends
returns-in-Rename-clause-ends g c = λ big. subst (λ q. IsEnd (stack_step (stack_row q) (values big c.args.stack.now)) (values big c.rename.new.stack) c.rename.result) (sym c.in-Rename.is)
    (kept_ends _ _ _ (c.rename.ensures big))
