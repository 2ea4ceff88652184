use Rattle.std.proofs.Common.{sym, subst}
use Rattle.rules_code.specs.steps.Numbers.{logic_step}
use Rattle.mich_overload.specs.View.{logic_row}
use Rattle.mich_stack.specs.Ends.{IsKept}
use Rattle.mich_stack.specs.Views.{values}
use Rattle.mich_step.proofs.logic.logic_step.Goals as goal

pub returns-in-AndBools : goal.returns-in-AndBools
returns-in-AndBools c = λ big. subst (λ q. IsKept (logic_step (logic_row q) (values big c.args.stack.now)) (values big c.and_bools.new.stack) c.and_bools.result) (sym c.in-AndBools.is) (c.and_bools.ensures big)

pub returns-in-OrBools : goal.returns-in-OrBools
returns-in-OrBools c = λ big. subst (λ q. IsKept (logic_step (logic_row q) (values big c.args.stack.now)) (values big c.or_bools.new.stack) c.or_bools.result) (sym c.in-OrBools.is) (c.or_bools.ensures big)

pub returns-in-XorBools : goal.returns-in-XorBools
returns-in-XorBools c = λ big. subst (λ q. IsKept (logic_step (logic_row q) (values big c.args.stack.now)) (values big c.xor_bools.new.stack) c.xor_bools.result) (sym c.in-XorBools.is) (c.xor_bools.ensures big)

pub returns-in-NotBool : goal.returns-in-NotBool
returns-in-NotBool c = λ big. subst (λ q. IsKept (logic_step (logic_row q) (values big c.args.stack.now)) (values big c.not_bool.new.stack) c.not_bool.result) (sym c.in-NotBool.is) (c.not_bool.ensures big)

pub returns-in-AndNumbers : goal.returns-in-AndNumbers
returns-in-AndNumbers c = λ big. subst (λ q. IsKept (logic_step (logic_row q) (values big c.args.stack.now)) (values big c.and_numbers.new.stack) c.and_numbers.result) (sym c.in-AndNumbers.is) (c.and_numbers.ensures big)

pub returns-in-OrNumbers : goal.returns-in-OrNumbers
returns-in-OrNumbers c = λ big. subst (λ q. IsKept (logic_step (logic_row q) (values big c.args.stack.now)) (values big c.or_numbers.new.stack) c.or_numbers.result) (sym c.in-OrNumbers.is) (c.or_numbers.ensures big)

pub returns-in-XorNumbers : goal.returns-in-XorNumbers
returns-in-XorNumbers c = λ big. subst (λ q. IsKept (logic_step (logic_row q) (values big c.args.stack.now)) (values big c.xor_numbers.new.stack) c.xor_numbers.result) (sym c.in-XorNumbers.is) (c.xor_numbers.ensures big)

pub returns-in-NotNumber : goal.returns-in-NotNumber
returns-in-NotNumber c = λ big. subst (λ q. IsKept (logic_step (logic_row q) (values big c.args.stack.now)) (values big c.not_number.new.stack) c.not_number.result) (sym c.in-NotNumber.is) (c.not_number.ensures big)

pub returns-in-Compare : goal.returns-in-Compare
returns-in-Compare c = λ big. subst (λ q. IsKept (logic_step (logic_row q) (values big c.args.stack.now)) (values big c.compare.new.stack) c.compare.result) (sym c.in-Compare.is) (c.compare.ensures big)

pub returns-in-Eq : goal.returns-in-Eq
returns-in-Eq c = λ big. subst (λ q. IsKept (logic_step (logic_row q) (values big c.args.stack.now)) (values big c.eq.new.stack) c.eq.result) (sym c.in-Eq.is) (c.eq.ensures big)

pub returns-in-Neq : goal.returns-in-Neq
returns-in-Neq c = λ big. subst (λ q. IsKept (logic_step (logic_row q) (values big c.args.stack.now)) (values big c.neq.new.stack) c.neq.result) (sym c.in-Neq.is) (c.neq.ensures big)

pub returns-in-Lt : goal.returns-in-Lt
returns-in-Lt c = λ big. subst (λ q. IsKept (logic_step (logic_row q) (values big c.args.stack.now)) (values big c.lt.new.stack) c.lt.result) (sym c.in-Lt.is) (c.lt.ensures big)

pub returns-in-Gt : goal.returns-in-Gt
returns-in-Gt c = λ big. subst (λ q. IsKept (logic_step (logic_row q) (values big c.args.stack.now)) (values big c.gt.new.stack) c.gt.result) (sym c.in-Gt.is) (c.gt.ensures big)

pub returns-in-Le : goal.returns-in-Le
returns-in-Le c = λ big. subst (λ q. IsKept (logic_step (logic_row q) (values big c.args.stack.now)) (values big c.le.new.stack) c.le.result) (sym c.in-Le.is) (c.le.ensures big)

pub returns-in-Ge : goal.returns-in-Ge
returns-in-Ge c = λ big. subst (λ q. IsKept (logic_step (logic_row q) (values big c.args.stack.now)) (values big c.ge.new.stack) c.ge.result) (sym c.in-Ge.is) (c.ge.ensures big)
