-- Shifts of ints that are not negative.
use Rattle.std.proofs.Common.{◌≡◌, ℕ, ◌^◌, ◌*◌, ◌/◌, ◌%◌, ◌≤◌, ◌<◌, refl, arith, sym, ap, ◌∙◌, true, false}
use Rattle.std.specs.Prelude.{ℤ, pos, negsuc, ◌*ℤ◌, ◌≤ℤ◌, int_lt, int_le, nat_le, FitsSigned, Ok, Err}
use Rattle.std.specs.Int.{w128, cast_signed, cast_unsigned, int_shr}
use Rattle.std.proofs.lemmas.Int.{to_z-of_z, to_z_pos}
use Rattle.std.proofs.lemmas.Bool.Decides.{nat_tests}
use Rattle.std.proofs.Math.Nat.{zero-mul, le-mul_of_pos_right, pow-le-pow_right, div-eq_of_lt, div-le_self}
use Rattle.std.proofs.lemmas.Nat.{pow_below, one_shl}
use Rattle.rules_data.specs.numbers.Limits.{integer_limit, shift_limit, is_int, int_or_limit}
use Rattle.rules_data.specs.numbers.Integers.{is_shift, shifted_left, shifted_right}

-- the int of an int's word is that int
abbrev word : ℤ → ℤ
word z = cast_signed w128 (cast_unsigned w128 z)

past : (b : ℤ) → int_lt (pos 256) b ≡ true → is_shift b ≡ false
past (pos n) h = grind (arith, nat_tests)
past (negsuc n) h = cc

within : (b : ℤ) → int_lt (pos 256) b ≡ false → is_shift b ≡ true
within (pos n) h = grind (arith, nat_tests)
within (negsuc n) h = refl

past_places : (b : ℤ) → FitsSigned w128 b → int_lt (pos 256) (word b) ≡ true → is_shift b ≡ false
past_places b fits h = past b (sym (ap (int_lt (pos 256)) (to_z-of_z w128 b fits)) ∙ h)

within_places : (b : ℤ) → FitsSigned w128 b → int_lt (pos 256) (word b) ≡ false → is_shift b ≡ true
within_places b fits h = within b (sym (ap (int_lt (pos 256)) (to_z-of_z w128 b fits)) ∙ h)

pub left_past : (a b : ℤ) → FitsSigned w128 b → int_lt (pos 256) (word b) ≡ true → Err shift_limit ≡ shifted_left a b
unfolding shifted_left
left_past a b fits h = rw (past_places b fits h) refl

pub right_past : (a b : ℤ) → FitsSigned w128 b → int_lt (pos 256) (word b) ≡ true → Err shift_limit ≡ shifted_right a b
unfolding shifted_right
right_past a b fits h = rw (past_places b fits h) refl

-- 0 stays 0
pub left_zero : (a b : ℤ) → FitsSigned w128 b → int_lt (pos 256) (word b) ≡ false → FitsSigned w128 a → cast_unsigned w128 a ≡ 0 → Ok (pos 0) ≡ shifted_left a b
unfolding shifted_left int_or_limit
left_zero a b fits h fits_a e =
    let is_zero : a ≡ pos 0 = sym (to_z-of_z w128 a fits_a) ∙ ap (cast_signed w128) e in
    rw (within_places b fits h, is_zero, zero-mul) refl

over_limit : (m n : ℕ) → 0 < m → 127 ≤ n → is_int (pos (m * 2 ^ n)) ≡ false
over_limit m n positive far =
    let power : 2 ^ 127 ≤ 2 ^ n = pow-le-pow_right {n = 2} (omega arith) far in
    let product : 2 ^ n ≤ 2 ^ n * m = le-mul_of_pos_right (2 ^ n) positive in
    let least : 2 ^ 127 ≤ m * 2 ^ n = omega arith in
    not_least (m * 2 ^ n) least
  where
    not_least : (x : ℕ) → 2 ^ 127 ≤ x → is_int (pos x) ≡ false
    not_least x h = grind (arith, nat_tests)

places_far : (n : ℕ) → FitsSigned w128 (pos n) → int_le (pos 127) (word (pos n)) ≡ true → 127 ≤ n
places_far n fits h =
    let k : nat_le 127 n ≡ true = sym (ap (int_le (pos 127)) (to_z-of_z w128 (pos n) fits)) ∙ h in grind (arith, nat_tests)

places_near : (n : ℕ) → FitsSigned w128 (pos n) → int_le (pos 127) (word (pos n)) ≡ false → n < 127
places_near n fits h =
    let k : nat_le 127 n ≡ false = sym (ap (int_le (pos 127)) (to_z-of_z w128 (pos n) fits)) ∙ h in grind (arith, nat_tests)

-- any other int is shifted past the limit by 127 places or more
pub left_far : (a b : ℤ) → FitsSigned w128 b → pos 0 ≤ℤ a → pos 0 ≤ℤ b → int_lt (pos 256) (word b) ≡ false → (cast_unsigned w128 a ≡ 0 → ⊥) → int_le (pos 127) (word b) ≡ true → Err integer_limit ≡ shifted_left a b
unfolding shifted_left int_or_limit
left_far (pos m) (pos n) fits low_a low_b h positive far =
    rw (within_places (pos n) fits h, over_limit m n (omega arith) (places_far n fits far)) refl
left_far (negsuc m) b fits low_a low_b h positive far = absurd low_a.le
left_far (pos m) (negsuc n) fits low_a low_b h positive far = absurd low_b.le

-- and to 0 in the other direction
pub right_far : (a b : ℤ) → FitsSigned w128 a → FitsSigned w128 b → pos 0 ≤ℤ a → pos 0 ≤ℤ b → int_lt (pos 256) (word b) ≡ false → int_le (pos 127) (word b) ≡ true → Ok (pos 0) ≡ shifted_right a b
unfolding shifted_right
right_far (pos m) (pos n) fits_a fits_b low_a low_b h far =
    let power : 2 ^ 127 ≤ 2 ^ n = pow-le-pow_right {n = 2} (omega arith) (places_far n fits_b far) in
    let small : m < 2 ^ 127 = fits_a.sfits in
    rw (within_places (pos n) fits_b h, div-eq_of_lt {n = m} {m = 2 ^ n} (omega arith)) refl
right_far (negsuc m) b fits_a fits_b low_a low_b h far = absurd low_a.le
right_far (pos m) (negsuc n) fits_a fits_b low_a low_b h far = absurd low_b.le

one_placed : (n : ℕ) → n < 127 → cast_signed w128 ((1 * 2 ^ n) % 2 ^ 128) ≡ pos (2 ^ n)
one_placed n near = ap (cast_signed w128) (one_shl n 128 (omega arith)) ∙ to_z_pos w128 (2 ^ n) (pow_below n 127 near)

-- by fewer places it is a product
pub left_near : (a b : ℤ) → FitsSigned w128 a → FitsSigned w128 b → pos 0 ≤ℤ b → int_lt (pos 256) (word b) ≡ false → int_le (pos 127) (word b) ≡ false → int_or_limit (word a *ℤ cast_signed w128 ((1 * 2 ^ cast_unsigned w128 b) % 2 ^ 128)) ≡ shifted_left a b
unfolding shifted_left
left_near a (pos n) fits_a fits_b low_b h near =
    rw (within_places (pos n) fits_b h) (ap (λ x. int_or_limit (x *ℤ cast_signed w128 ((1 * 2 ^ n) % 2 ^ 128))) (to_z-of_z w128 a fits_a) ∙ ap (λ x. int_or_limit (a *ℤ x)) (one_placed n (places_near n fits_b near)))
left_near a (negsuc n) fits_a fits_b low_b h near = absurd low_b.le

-- and in the other direction a quotient
pub right_near : (a b : ℤ) → FitsSigned w128 a → FitsSigned w128 b → pos 0 ≤ℤ a → pos 0 ≤ℤ b → int_lt (pos 256) (word b) ≡ false → Ok (word (int_shr (word a) (cast_unsigned w128 b))) ≡ shifted_right a b
unfolding shifted_right
right_near (pos m) (pos n) fits_a fits_b low_a low_b h =
    let small : m < 2 ^ 127 = fits_a.sfits in
    let part : m / 2 ^ n ≤ m = div-le_self m (2 ^ n) in
    rw (within_places (pos n) fits_b h) (ap (λ x. Ok (word (int_shr x n))) (to_z_pos w128 m small) ∙ ap Ok (to_z_pos w128 (m / 2 ^ n) (omega arith)))
right_near (negsuc m) b fits_a fits_b low_a low_b h = absurd low_a.le
right_near (pos m) (negsuc n) fits_a fits_b low_a low_b h = absurd low_b.le
