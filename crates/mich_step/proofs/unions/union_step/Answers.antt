use Rattle.std.proofs.Common.{sym, subst}
use Rattle.rules_code.specs.steps.Stack.{union_step}
use Rattle.mich_overload.specs.View.{union_row}
use Rattle.mich_stack.specs.Ends.{IsKept}
use Rattle.mich_stack.specs.Views.{values}
use Rattle.mich_step.proofs.unions.union_step.Goals as goal

pub returns-in-Cons : goal.returns-in-Cons
returns-in-Cons c = λ big. subst (λ q. IsKept (union_step (union_row q) (values big c.args.stack.now)) (values big c.cons.new.stack) c.cons.result) (sym c.in-Cons.is) (c.cons.ensures big)
