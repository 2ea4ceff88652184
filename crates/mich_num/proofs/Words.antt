-- The bits of an int are those of its 128-bit word, and those behind are its sign.
use Rattle.std.proofs.Common.{◌≡◌, ℕ, ◌^◌, ◌-◌, ◌≤◌, ◌<◌, refl, arith, sym, ap, ◌∙◌, inl, inr, suc, lit<}
use Rattle.std.specs.Prelude.{ℤ, pos, negsuc, FitsSigned, bit_and, bit_or, bit_xor}
use Rattle.std.specs.Int.{w128, bit_at, cast_signed, cast_unsigned}
use Rattle.std.proofs.lemmas.Bool.{cases_lt}
use Rattle.std.proofs.lemmas.Int.{of_z-to_z}
use Rattle.std.proofs.Math.Facts.{sfits_to_z, Fits-bits}
use Rattle.std.proofs.lemmas.Nat.Bits.{bit_at_not, bit_at_above, bit_at_and, bit_at_or, bit_at_xor}
use Rattle.std.specs.Int.Bits.{and_lt}
use Rattle.std.proofs.lemmas.Nat.{or_lt, xor_lt}
use Rattle.rules_data.specs.numbers.Bits.{bit, IsBitByBit, both, either, one_of, bitwise_and, bitwise_or, bitwise_xor}

small : (n : ℕ) → n < 2 ^ 127 → n < 2 ^ 128
small n h = omega arith

inverted : (n : ℕ) → 2 ^ 128 - 1 - n ≡ 2 ^ 128 - suc n
inverted n = omega arith

bit_of_word : (z : ℤ) (i : ℕ) → FitsSigned w128 z → i < 128 → bit z i ≡ bit_at (cast_unsigned w128 z) i
bit_of_word (pos n) i h l = refl
bit_of_word (negsuc n) i h l = sym (bit_at_not w128 n i (small n h.sfits) l) ∙ ap (λ x. bit_at x i) (inverted n)

bit_of_sign : (z : ℤ) (i : ℕ) → FitsSigned w128 z → 127 ≤ i → bit z i ≡ bit z 127
bit_of_sign (pos n) i h l = bit_at_above n 127 i h.sfits l ∙ sym (bit_at_above n 127 127 h.sfits (omega arith))
bit_of_sign (negsuc n) i h l =
    ap (λ x. 1 - x) (bit_at_above n 127 i h.sfits l ∙ sym (bit_at_above n 127 127 h.sfits (omega arith)))

word_fits : (z : ℤ) → FitsSigned w128 z → cast_unsigned w128 z < 2 ^ 128
word_fits (pos n) h = let k : n < 2 ^ 127 = h.sfits in omega arith
word_fits (negsuc n) h = omega arith

-- an operation on words that goes bit by bit goes bit by bit on ints
bit_by_bit : (f op : ℕ → ℕ → ℕ) → ((x y i : ℕ) → bit_at (op x y) i ≡ f (bit_at x i) (bit_at y i)) → ((x y : ℕ) → x < 2 ^ 128 → y < 2 ^ 128 → op x y < 2 ^ 128) → (a b : ℤ) → FitsSigned w128 a → FitsSigned w128 b → IsBitByBit f a b (cast_signed w128 (op (cast_unsigned w128 a) (cast_unsigned w128 b)))
bit_by_bit f op by_bits within a b fits_a fits_b i =
    elim (cases_lt i 128) [ inl low ↦ below i low | inr high ↦ bit_of_sign c i fits_c (above i high) ∙ below 127 (lit< tt) ∙ sym (ap (λ x. f x (bit b i)) (bit_of_sign a i fits_a (above i high)) ∙ ap (λ x. f (bit a 127) x) (bit_of_sign b i fits_b (above i high))) ]
  where
    word : ℕ
    word = op (cast_unsigned w128 a) (cast_unsigned w128 b)

    word_within : word < 2 ^ 128
    word_within = within (cast_unsigned w128 a) (cast_unsigned w128 b) (word_fits a fits_a) (word_fits b fits_b)

    c : ℤ
    c = cast_signed w128 word

    fits_c : FitsSigned w128 c
    fits_c = sfits_to_z {w = w128} {n = word} (Fits-bits {w = w128} {n = word} 128 tt word_within)

    above : (k : ℕ) → 128 ≤ k → 127 ≤ k
    above k h = omega arith

    below : (k : ℕ) → k < 128 → bit c k ≡ f (bit a k) (bit b k)
    below k h = bit_of_word c k fits_c h ∙ ap (λ x. bit_at x k) (of_z-to_z w128 word word_within) ∙ by_bits (cast_unsigned w128 a) (cast_unsigned w128 b) k ∙ sym (ap (λ x. f x (bit b k)) (bit_of_word a k fits_a h) ∙ ap (λ x. f (bit_at (cast_unsigned w128 a) k) x) (bit_of_word b k fits_b h))

pub and_bits : (a b : ℤ) → FitsSigned w128 a → FitsSigned w128 b → IsBitByBit both a b (bitwise_and a b)
and_bits = bit_by_bit both bit_and bit_at_and (λ x y. and_lt 128 x y)

pub or_bits : (a b : ℤ) → FitsSigned w128 a → FitsSigned w128 b → IsBitByBit either a b (bitwise_or a b)
or_bits = bit_by_bit either bit_or bit_at_or (λ x y. or_lt 128 x y)

pub xor_bits : (a b : ℤ) → FitsSigned w128 a → FitsSigned w128 b → IsBitByBit one_of a b (bitwise_xor a b)
xor_bits = bit_by_bit one_of bit_xor bit_at_xor (λ x y. xor_lt 128 x y)
