use Rattle.std.proofs.Common.{sym, subst}
use Rattle.rules_code.specs.steps.Numbers.{number_step}
use Rattle.mich_overload.specs.View.{number_row}
use Rattle.mich_stack.specs.Ends.{IsKept}
use Rattle.mich_stack.specs.Views.{values}
use Rattle.mich_step.proofs.numbers.number_step.Goals as goal

pub returns-in-AddNumbers : goal.returns-in-AddNumbers
returns-in-AddNumbers c = λ big. subst (λ q. IsKept (number_step (number_row q) (values big c.args.stack.now)) (values big c.add_numbers.new.stack) c.add_numbers.result) (sym c.in-AddNumbers.is) (c.add_numbers.ensures big)

pub returns-in-AddAmounts : goal.returns-in-AddAmounts
returns-in-AddAmounts c = λ big. subst (λ q. IsKept (number_step (number_row q) (values big c.args.stack.now)) (values big c.add_amounts.new.stack) c.add_amounts.result) (sym c.in-AddAmounts.is) (c.add_amounts.ensures big)

pub returns-in-Sub : goal.returns-in-Sub
returns-in-Sub c = λ big. subst (λ q. IsKept (number_step (number_row q) (values big c.args.stack.now)) (values big c.sub_numbers.new.stack) c.sub_numbers.result) (sym c.in-Sub.is) (c.sub_numbers.ensures big)

pub returns-in-SubMutez : goal.returns-in-SubMutez
returns-in-SubMutez c = λ big. subst (λ q. IsKept (number_step (number_row q) (values big c.args.stack.now)) (values big c.sub_mutez.new.stack) c.sub_mutez.result) (sym c.in-SubMutez.is) (c.sub_mutez.ensures big)

pub returns-in-MulNumbers : goal.returns-in-MulNumbers
returns-in-MulNumbers c = λ big. subst (λ q. IsKept (number_step (number_row q) (values big c.args.stack.now)) (values big c.mul_numbers.new.stack) c.mul_numbers.result) (sym c.in-MulNumbers.is) (c.mul_numbers.ensures big)

pub returns-in-MulAmounts : goal.returns-in-MulAmounts
returns-in-MulAmounts c = λ big. subst (λ q. IsKept (number_step (number_row q) (values big c.args.stack.now)) (values big c.mul_amounts.new.stack) c.mul_amounts.result) (sym c.in-MulAmounts.is) (c.mul_amounts.ensures big)

pub returns-in-Ediv : goal.returns-in-Ediv
returns-in-Ediv c = λ big. subst (λ q. IsKept (number_step (number_row q) (values big c.args.stack.now)) (values big c.divide.new.stack) c.divide.result) (sym c.in-Ediv.is) (c.divide.ensures big)

pub returns-in-Abs : goal.returns-in-Abs
returns-in-Abs c = λ big. subst (λ q. IsKept (number_step (number_row q) (values big c.args.stack.now)) (values big c.abs_number.new.stack) c.abs_number.result) (sym c.in-Abs.is) (c.abs_number.ensures big)

pub returns-in-Neg : goal.returns-in-Neg
returns-in-Neg c = λ big. subst (λ q. IsKept (number_step (number_row q) (values big c.args.stack.now)) (values big c.neg_number.new.stack) c.neg_number.result) (sym c.in-Neg.is) (c.neg_number.ensures big)

pub returns-in-Int : goal.returns-in-Int
returns-in-Int c = λ big. subst (λ q. IsKept (number_step (number_row q) (values big c.args.stack.now)) (values big c.int.new.stack) c.int.result) (sym c.in-Int.is) (c.int.ensures big)

pub returns-in-Isnat : goal.returns-in-Isnat
returns-in-Isnat c = λ big. subst (λ q. IsKept (number_step (number_row q) (values big c.args.stack.now)) (values big c.isnat.new.stack) c.isnat.result) (sym c.in-Isnat.is) (c.isnat.ensures big)

pub returns-in-Lsl : goal.returns-in-Lsl
returns-in-Lsl c = λ big. subst (λ q. IsKept (number_step (number_row q) (values big c.args.stack.now)) (values big c.shift_left.new.stack) c.shift_left.result) (sym c.in-Lsl.is) (c.shift_left.ensures big)

pub returns-in-Lsr : goal.returns-in-Lsr
returns-in-Lsr c = λ big. subst (λ q. IsKept (number_step (number_row q) (values big c.args.stack.now)) (values big c.shift_right.new.stack) c.shift_right.result) (sym c.in-Lsr.is) (c.shift_right.ensures big)

pub returns-in-NatToBytes : goal.returns-in-NatToBytes
returns-in-NatToBytes c = λ big. subst (λ q. IsKept (number_step (number_row q) (values big c.args.stack.now)) (values big c.nat_to_bytes.new.stack) c.nat_to_bytes.result) (sym c.in-NatToBytes.is) (c.nat_to_bytes.ensures big)

pub returns-in-IntToBytes : goal.returns-in-IntToBytes
returns-in-IntToBytes c = λ big. subst (λ q. IsKept (number_step (number_row q) (values big c.args.stack.now)) (values big c.int_to_bytes.new.stack) c.int_to_bytes.result) (sym c.in-IntToBytes.is) (c.int_to_bytes.ensures big)

pub returns-in-BytesToNat : goal.returns-in-BytesToNat
returns-in-BytesToNat c = λ big. subst (λ q. IsKept (number_step (number_row q) (values big c.args.stack.now)) (values big c.bytes_to_nat.new.stack) c.bytes_to_nat.result) (sym c.in-BytesToNat.is) (c.bytes_to_nat.ensures big)

pub returns-in-BytesToInt : goal.returns-in-BytesToInt
returns-in-BytesToInt c = λ big. subst (λ q. IsKept (number_step (number_row q) (values big c.args.stack.now)) (values big c.bytes_to_int.new.stack) c.bytes_to_int.result) (sym c.in-BytesToInt.is) (c.bytes_to_int.ensures big)
