-- Each group that burns and mints nothing ends as its rule says.
use Rattle.std.proofs.Common.{sym, subst}
use Rattle.mich_overload.specs.View.{straight}
use Rattle.mich_stack.specs.Ends.{IsKept}
use Rattle.mich_stack.specs.Views.{values}
use Rattle.mich_step.specs.Rule.{rule}
use Rattle.mich_step.specs.Views.{environment}
use Rattle.mich_step.proofs.dispatching.quiet.Goals as goal

pub returns-in-Unions : goal.returns-in-Unions
returns-in-Unions c = λ total big. subst (λ q. IsKept (rule (environment c.args.env.now) total (straight q) (values big c.args.stack.now)) (values big c.union_step.new.stack) c.union_step.result)
    (sym c.in-Unions.is) (c.union_step.ensures big)

pub returns-in-Numbers : goal.returns-in-Numbers
returns-in-Numbers c = λ total big. subst (λ q. IsKept (rule (environment c.args.env.now) total (straight q) (values big c.args.stack.now)) (values big c.number_step.new.stack) c.number_step.result)
    (sym c.in-Numbers.is) (c.number_step.ensures big)

pub returns-in-Logic : goal.returns-in-Logic
returns-in-Logic c = λ total big. subst (λ q. IsKept (rule (environment c.args.env.now) total (straight q) (values big c.args.stack.now)) (values big c.logic_step.new.stack) c.logic_step.result)
    (sym c.in-Logic.is) (c.logic_step.ensures big)

pub returns-in-Texts : goal.returns-in-Texts
returns-in-Texts c = λ total big. subst (λ q. IsKept (rule (environment c.args.env.now) total (straight q) (values big c.args.stack.now)) (values big c.text_step.new.stack) c.text_step.result)
    (sym c.in-Texts.is) (c.text_step.ensures big)

pub returns-in-Environment : goal.returns-in-Environment
returns-in-Environment c = λ total big. subst (λ q. IsKept (rule (environment c.args.env.now) total (straight q) (values big c.args.stack.now)) (values big c.environment_step.new.stack) c.environment_step.result)
    (sym c.in-Environment.is) (c.environment_step.ensures big)

pub returns-in-Operations : goal.returns-in-Operations
returns-in-Operations c = λ total big. subst (λ q. IsKept (rule (environment c.args.env.now) total (straight q) (values big c.args.stack.now)) (values big c.operation_step.new.stack) c.operation_step.result)
    (sym c.in-Operations.is) (c.operation_step.ensures big)
