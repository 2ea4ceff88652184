-- Numbers within the ranges of their types.
use Rattle.std.proofs.Common.{◌≡◌, ℕ, ◌-◌, ◌^◌, ◌/◌, ◌%◌, ◌≤◌, ◌<◌, true, sym, subst, arith, pos}
use Rattle.std.specs.Prelude.{ℤ, negsuc, ◌+ℤ◌, ◌*ℤ◌, ◌≤ℤ◌, neg_ℤ}
use Rattle.std.specs.Int.{w128, int_div_euclid, int_rem_euclid, cast_signed, cast_unsigned}
use Rattle.std.proofs.lemmas.Int.{ints}
use Rattle.std.proofs.lemmas.Nat.{and_le_r, or_lt, xor_lt}
use Rattle.std.specs.Int.Bits.{bit_and, bit_or, bit_xor}
use Rattle.std.proofs.lemmas.Bool.Decides.{nat_tests}
use Rattle.rules_data.specs.numbers.Limits.{is_int, is_mutez}
use Rattle.rules_data.specs.numbers.Bits.{bitwise_and, bitwise_or, bitwise_xor, complement}
use Rattle.rules_data.specs.values.Literals.{is_nat, is_amount}

-- ---- ranges as facts

pub nat_low : (x : ℤ) → is_nat x ≡ true → pos 0 ≤ℤ x
nat_low x h = grind (arith, ints)

pub nat_high : (x : ℤ) → is_nat x ≡ true → x ≤ℤ pos (2 ^ 127 - 1)
nat_high x h = grind (arith, ints)

pub nat_from : (x : ℤ) → pos 0 ≤ℤ x → x ≤ℤ pos (2 ^ 127 - 1) → is_nat x ≡ true
nat_from x h g = grind (arith, ints)

pub int_low : (x : ℤ) → is_int x ≡ true → neg_ℤ (pos (2 ^ 127)) ≤ℤ x
int_low x h = grind (arith, ints)

pub int_high : (x : ℤ) → is_int x ≡ true → x ≤ℤ pos (2 ^ 127 - 1)
int_high x h = grind (arith, ints)

pub int_from : (x : ℤ) → neg_ℤ (pos (2 ^ 127)) ≤ℤ x → x ≤ℤ pos (2 ^ 127 - 1) → is_int x ≡ true
int_from x h g = grind (arith, ints)

pub amount_high : (n : ℕ) → is_amount (pos n) ≡ true → n ≤ 2 ^ 63 - 1
amount_high n h = grind (arith, ints)

pub amount_from : (n : ℕ) → n ≤ 2 ^ 63 - 1 → is_amount (pos n) ≡ true
amount_from n h = grind (arith, ints)

pub mutez_amount : (n : ℕ) → is_mutez n ≡ true → is_amount (pos n) ≡ true
mutez_amount n h = let g : n ≤ 2 ^ 63 - 1 = grind (arith, nat_tests) in amount_from n g

-- ---- results

pub nat_within : (z : ℤ) → pos 0 ≤ℤ z → is_int z ≡ true → is_nat z ≡ true
nat_within z h g = nat_from z h (int_high z g)

pub nat_sum : (x y : ℤ) → is_nat x ≡ true → is_nat y ≡ true → pos 0 ≤ℤ (x +ℤ y)
nat_sum x y h g = let a = nat_low x h in let b = nat_low y g in omega (arith, ints)

pub nat_product : (x y : ℤ) → is_nat x ≡ true → is_nat y ≡ true → pos 0 ≤ℤ (x *ℤ y)
nat_product (pos m) (pos n) h g = omega (arith, ints)
nat_product (pos m) (negsuc n) h g = let b = nat_low (negsuc n) g in absurd (omega (arith, ints))
nat_product (negsuc m) y h g = let b = nat_low (negsuc m) h in absurd (omega (arith, ints))

pub nat_int : (x : ℤ) → is_nat x ≡ true → is_int x ≡ true
nat_int x h = let a = nat_low x h in let b = nat_high x h in int_from x (omega (arith, ints)) b

pub complement_int : (x : ℤ) → is_int x ≡ true → is_int (complement x) ≡ true
complement_int x h = let a = int_low x h in let b = int_high x h in
    int_from (complement x) (omega (arith, ints)) (omega (arith, ints))

pub quotient_nat : (x y : ℤ) → is_nat x ≡ true → is_nat y ≡ true → pos 0 ≤ℤ int_div_euclid x y
quotient_nat (pos m) (pos n) h g = omega (arith, ints)
quotient_nat (pos m) (negsuc n) h g = let b = nat_low (negsuc n) g in absurd (omega (arith, ints))
quotient_nat (negsuc m) y h g = let b = nat_low (negsuc m) h in absurd (omega (arith, ints))

pub remainder_low : (x y : ℤ) → pos 0 ≤ℤ int_rem_euclid x y
remainder_low (pos m) y = omega (arith, ints)
remainder_low (negsuc m) y = omega (arith, ints)

pub quotient_small : (m n : ℕ) → m / n ≤ m
quotient_small m n = omega arith

pub remainder_small : (m n : ℕ) → m % n ≤ m
remainder_small m n = omega arith

small : (n : ℕ) → is_nat (pos n) ≡ true → n < 2 ^ 127
small n h = let a = nat_high (pos n) h in omega (arith, ints)

word : (n : ℕ) → n < 2 ^ 127 → cast_unsigned w128 (pos n) ≡ n
word n h = omega (arith, ints)

unword : (n : ℕ) → n < 2 ^ 127 → cast_signed w128 n ≡ pos n
unword n h = omega (arith, ints)

nat_is : (n : ℕ) → n < 2 ^ 127 → is_nat (pos n) ≡ true
nat_is n h = nat_from (pos n) (omega (arith, ints)) (omega (arith, ints))

nat_of_word : (n : ℕ) → n < 2 ^ 127 → is_nat (cast_signed w128 n) ≡ true
nat_of_word n h = subst (λ z. is_nat z ≡ true) (sym (unword n h)) (nat_is n h)

pub and_nat : (x y : ℤ) → is_nat y ≡ true → is_nat (bitwise_and x y) ≡ true
and_nat x (pos n) h =
    let l : n < 2 ^ 127 = small n h in
    let e : cast_unsigned w128 (pos n) ≡ n = word n l in
    let b : bit_and (cast_unsigned w128 x) (cast_unsigned w128 (pos n)) ≤ cast_unsigned w128 (pos n) = and_le_r
    (cast_unsigned w128 x) (cast_unsigned w128 (pos n)) in
    nat_of_word (bit_and (cast_unsigned w128 x) (cast_unsigned w128 (pos n))) (omega arith)
and_nat x (negsuc n) h = let b = nat_low (negsuc n) h in absurd (omega (arith, ints))

pub or_nat : (x y : ℤ) → is_nat x ≡ true → is_nat y ≡ true → is_nat (bitwise_or x y) ≡ true
or_nat (pos m) (pos n) g h =
    let k : m < 2 ^ 127 = small m g in
    let l : n < 2 ^ 127 = small n h in
    let e : cast_unsigned w128 (pos n) ≡ n = word n l in
    let f : cast_unsigned w128 (pos m) ≡ m = word m k in
    nat_of_word (bit_or (cast_unsigned w128 (pos m)) (cast_unsigned w128 (pos n)))
    (or_lt 127 (cast_unsigned w128 (pos m)) (cast_unsigned w128 (pos n)) (subst (λ z. z < 2 ^ 127) (sym f) k)
    (subst (λ z. z < 2 ^ 127) (sym e) l))
or_nat (pos m) (negsuc n) g h = let b = nat_low (negsuc n) h in absurd (omega (arith, ints))
or_nat (negsuc m) y g h = let b = nat_low (negsuc m) g in absurd (omega (arith, ints))

pub xor_nat : (x y : ℤ) → is_nat x ≡ true → is_nat y ≡ true → is_nat (bitwise_xor x y) ≡ true
xor_nat (pos m) (pos n) g h =
    let k : m < 2 ^ 127 = small m g in
    let l : n < 2 ^ 127 = small n h in
    let e : cast_unsigned w128 (pos n) ≡ n = word n l in
    let f : cast_unsigned w128 (pos m) ≡ m = word m k in
    nat_of_word (bit_xor (cast_unsigned w128 (pos m)) (cast_unsigned w128 (pos n)))
    (xor_lt 127 (cast_unsigned w128 (pos m)) (cast_unsigned w128 (pos n)) (subst (λ z. z < 2 ^ 127) (sym f) k)
    (subst (λ z. z < 2 ^ 127) (sym e) l))
xor_nat (pos m) (negsuc n) g h = let b = nat_low (negsuc n) h in absurd (omega (arith, ints))
xor_nat (negsuc m) y g h = let b = nat_low (negsuc m) g in absurd (omega (arith, ints))
