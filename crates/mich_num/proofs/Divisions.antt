-- The quotient and the remainder of ints.
use Rattle.std.proofs.Common.{◌≡◌, ℕ, zero, suc, ◌^◌, ◌-◌, ◌+◌, ◌*◌, ◌/◌, ◌%◌, ◌<◌, refl, arith, sym, ap, ◌∙◌, false}
use Rattle.std.specs.Prelude.{ℤ, pos, negsuc, ◌*ℤ◌, neg_ℤ, unsigned_abs, ◌==◌, FitsSigned, Some, None, Ok, Err}
use Rattle.std.specs.Int.{w128, cast_signed, cast_unsigned, int_div_euclid, int_rem_euclid}
use Rattle.std.proofs.lemmas.Int.{to_z-of_z, ints}
use Rattle.std.proofs.lemmas.Bool.Decides.{nat_tests}
use Rattle.std.proofs.lemmas.Nat.{same_from_place, div-add-mod', mod_below}
use Rattle.std.proofs.Math.Nat.{zero-mul}
use borrow.Author.Differences.{up, down}
use Rattle.rules_data.specs.numbers.Limits.{integer_limit}
use Rattle.rules_data.specs.numbers.Integers.{IsDivision, IsOnlyDivision, division}
use Rattle.mich_num.proofs.Checked.{int_fits}

pub by_zero : (a b : ℤ) → FitsSigned w128 b → cast_unsigned w128 b ≡ 0 → Ok None ≡ division a b
unfolding division
by_zero a (pos n) fits e = rw e refl
by_zero a (negsuc n) fits e = let small : n < 2 ^ 127 = fits.sfits in absurd (omega arith)

from_word : (z : ℤ) (n : ℕ) → FitsSigned w128 z → cast_unsigned w128 z ≡ n → z ≡ cast_signed w128 n
from_word z n fits e = sym (to_z-of_z w128 z fits) ∙ ap (cast_signed w128) e

pub past_limit : (a b : ℤ) → FitsSigned w128 a → FitsSigned w128 b → cast_unsigned w128 a ≡ 2 ^ 127 → cast_unsigned w128 b ≡ 2 ^ 128 - 1 → Err integer_limit ≡ division a b
unfolding division
past_limit a b fits_a fits_b ea eb =
    let is_a : a ≡ negsuc (2 ^ 127 - 1) = from_word a (2 ^ 127) fits_a ea in
    let is_b : b ≡ negsuc 0 = from_word b (2 ^ 128 - 1) fits_b eb in
    rw (is_a, is_b) refl

not_zero : (b : ℤ) → (cast_unsigned w128 b ≡ 0 → ⊥) → 0 < unsigned_abs b
not_zero (pos n) h = omega arith
not_zero (negsuc n) h = omega arith

tests_not_zero : (n : ℕ) → 0 < n → (n == 0) ≡ false
tests_not_zero n h = grind (arith, nat_tests)

whole : (a b q r : ℤ) → (cast_unsigned w128 b ≡ 0 → ⊥) → FitsSigned w128 q → FitsSigned w128 r → q ≡ int_div_euclid a b → r ≡ int_rem_euclid a b → Ok (Some (q, r)) ≡ division a b
unfolding division
whole a b q r h fits_q fits_r is_q is_r =
    rw (← is_q, ← is_r, tests_not_zero (unsigned_abs b) (not_zero b h), int_fits q fits_q, int_fits r fits_r) refl

times_negative : (k b : ℕ) → neg_ℤ (pos k) *ℤ negsuc b ≡ pos (k * suc b)
times_negative zero b = rw zero-mul refl
times_negative (suc k) b = refl

is_division : (a b : ℤ) → 0 < unsigned_abs b → IsDivision a b (int_div_euclid a b) (int_rem_euclid a b)
is_division (pos a) (pos b) h = record { whole = omega (arith, ints); not_negative = omega (arith, ints); small = omega (arith, ints) }
is_division (pos a) (negsuc b) h =
    let split : a / suc b * suc b + a % suc b ≡ a = div-add-mod' a (suc b) in
    let rest : a % suc b < suc b = mod_below a (suc b) (omega arith) in
    record { whole = rw times_negative (ap pos (sym split)); not_negative = omega (arith, ints); small = omega (arith, ints) }
is_division (negsuc a) (pos b) h =
    let split : a / b * b + a % b ≡ a = div-add-mod' a b in
    let rest : a % b < b = mod_below a b h in
    record { whole = omega (arith, ints); not_negative = omega (arith, ints); small = omega (arith, ints) }
is_division (negsuc a) (negsuc b) h =
    let split : a / suc b * suc b + a % suc b ≡ a = div-add-mod' a (suc b) in
    let rest : a % suc b < suc b = mod_below a (suc b) (omega arith) in
    record { whole = omega (arith, ints); not_negative = omega (arith, ints); small = omega (arith, ints) }

-- two pairs that divide alike are one
unique : (a b q r p s : ℤ) → IsDivision a b q r → IsDivision a b p s → (p ≡ q) × (s ≡ r)
unique a (pos b) q (pos r) p (pos s) d e =
    let places : (up p + down q) * b + s ≡ (down p + up q) * b + r = omega (arith, ints, d.whole, e.whole) in
    let parts : (up p + down q ≡ down p + up q) × (s ≡ r) = same_from_place (up p + down q) s (down p + up q) r b (omega (arith, ints, e.small)) (omega (arith, ints, d.small)) places in
    (omega (arith, ints, parts.0), ap pos parts.1)
unique a (negsuc b) q (pos r) p (pos s) d e =
    let places : (down p + up q) * suc b + s ≡ (up p + down q) * suc b + r = omega (arith, ints, d.whole, e.whole) in
    let parts : (down p + up q ≡ up p + down q) × (s ≡ r) = same_from_place (down p + up q) s (up p + down q) r (suc b) (omega (arith, ints, e.small)) (omega (arith, ints, d.small)) places in
    (omega (arith, ints, parts.0), ap pos parts.1)
unique a b q (negsuc r) p s d e = absurd d.not_negative.le
unique a b q (pos r) p (negsuc s) d e = absurd e.not_negative.le

only : (a b q r : ℤ) → (cast_unsigned w128 b ≡ 0 → ⊥) → q ≡ int_div_euclid a b → r ≡ int_rem_euclid a b → IsOnlyDivision a b q r
only a b q r h is_q is_r =
    let one : IsDivision a b q r = rw (is_q, is_r) (is_division a b (not_zero b h)) in
    record { is_one = one; no_other = λ p s other. unique a b q r p s one other }

-- the int of an int's word is that int
abbrev word : ℤ → ℤ
word z = cast_signed w128 (cast_unsigned w128 z)

quotient_of_words : (a b q : ℤ) → FitsSigned w128 a → FitsSigned w128 b → q ≡ int_div_euclid (word a) (word b) → q ≡ int_div_euclid a b
quotient_of_words a b q fits_a fits_b e = e ∙ ap (λ x. int_div_euclid x (word b)) (to_z-of_z w128 a fits_a) ∙ ap (int_div_euclid a) (to_z-of_z w128 b fits_b)

remainder_of_words : (a b r : ℤ) → FitsSigned w128 a → FitsSigned w128 b → r ≡ int_rem_euclid (word a) (word b) → r ≡ int_rem_euclid a b
remainder_of_words a b r fits_a fits_b e = e ∙ ap (λ x. int_rem_euclid x (word b)) (to_z-of_z w128 a fits_a) ∙ ap (int_rem_euclid a) (to_z-of_z w128 b fits_b)

pub whole_division : (a b q r : ℤ) → FitsSigned w128 a → FitsSigned w128 b → FitsSigned w128 q → FitsSigned w128 r → (cast_unsigned w128 b ≡ 0 → ⊥) → q ≡ int_div_euclid (word a) (word b) → r ≡ int_rem_euclid (word a) (word b) → Ok (Some (word q, word r)) ≡ division a b
whole_division a b q r fits_a fits_b fits_q fits_r h is_q is_r =
    ap (λ x. Ok (Some (x, word r))) (to_z-of_z w128 q fits_q) ∙ ap (λ x. Ok (Some (q, x))) (to_z-of_z w128 r fits_r) ∙ whole a b q r h fits_q fits_r (quotient_of_words a b q fits_a fits_b is_q) (remainder_of_words a b r fits_a fits_b is_r)

pub only_division : (a b q r : ℤ) → FitsSigned w128 a → FitsSigned w128 b → FitsSigned w128 q → FitsSigned w128 r → (cast_unsigned w128 b ≡ 0 → ⊥) → q ≡ int_div_euclid (word a) (word b) → r ≡ int_rem_euclid (word a) (word b) → IsOnlyDivision a b (word q) (word r)
only_division a b q r fits_a fits_b fits_q fits_r h is_q is_r =
    only a b (word q) (word r) h (to_z-of_z w128 q fits_q ∙ quotient_of_words a b q fits_a fits_b is_q) (to_z-of_z w128 r fits_r ∙ remainder_of_words a b r fits_a fits_b is_r)
