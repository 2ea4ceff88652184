use Rattle.std.proofs.Common.{sym, subst}
use Rattle.rules_code.specs.steps.Stack.{pair_step}
use Rattle.mich_overload.specs.View.{pair_row}
use Rattle.mich_stack.specs.Ends.{IsKept}
use Rattle.mich_stack.specs.Given.{IsGiven}
use Rattle.mich_stack.specs.Views.{values}
use Rattle.mich_step.proofs.pairs.give_pairs.Goals as goal

pub returns-in-Pair : goal.returns-in-Pair
returns-in-Pair c = λ big. c.nothing.ensures big (pair_step (pair_row c.args.row.now) (values big c.args.stack.now)) (values big c.pair.new.stack)
    (subst (λ q. IsKept (pair_step (pair_row q) (values big c.args.stack.now)) (values big c.pair.new.stack) c.pair.result) (sym c.in-Pair.is) (c.pair.ensures big))

pub returns-in-Unpair : goal.returns-in-Unpair
returns-in-Unpair c = λ big. c.nothing-in-Unpair.ensures big (pair_step (pair_row c.args.row.now) (values big c.args.stack.now)) (values big c.unpair.new.stack)
    (subst (λ q. IsKept (pair_step (pair_row q) (values big c.args.stack.now)) (values big c.unpair.new.stack) c.unpair.result) (sym c.in-Unpair.is) (c.unpair.ensures big))

pub returns-in-Car : goal.returns-in-Car
returns-in-Car c = λ big. subst (λ q. IsGiven big (pair_step (pair_row q) (values big c.args.stack.now)) (values big c.car.new.stack) c.car.result) (sym c.in-Car.is) (c.car.ensures big)

pub returns-in-Cdr : goal.returns-in-Cdr
returns-in-Cdr c = λ big. subst (λ q. IsGiven big (pair_step (pair_row q) (values big c.args.stack.now)) (values big c.cdr.new.stack) c.cdr.result) (sym c.in-Cdr.is) (c.cdr.ensures big)

pub returns-in-GetPart : goal.returns-in-GetPart
returns-in-GetPart c = λ big. subst (λ q. IsGiven big (pair_step (pair_row q) (values big c.args.stack.now)) (values big c.get_part.new.stack) c.get_part.result) (sym c.in-GetPart.is) (c.get_part.ensures big)

pub returns-in-UpdatePart : goal.returns-in-UpdatePart
returns-in-UpdatePart c = λ big. subst (λ q. IsGiven big (pair_step (pair_row q) (values big c.args.stack.now)) (values big c.update_part.new.stack) c.update_part.result) (sym c.in-UpdatePart.is) (c.update_part.ensures big)
