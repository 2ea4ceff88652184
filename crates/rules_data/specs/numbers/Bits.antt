-- Integers bit by bit, in two's complement.
use Rattle.std.specs.Prelude.{◌≡◌, ℕ, ◌+◌, ◌%◌, ◌^◌, min, max, ℤ, pos, neg_ℤ, ◌-ℤ◌, unsigned_abs}
use Rattle.std.specs.Int.{w128, int_div_euclid, int_rem_euclid, int_bit_and, int_bit_or, int_bit_xor}

-- bit i of a: what a / 2^i, rounded down, leaves modulo 2; of a negative number all bits from some place on are 1
abbrev pub bit : ℤ → ℕ → ℕ
bit a i = unsigned_abs (int_rem_euclid (int_div_euclid a (pos (2 ^ i))) (pos 2))

-- each bit of c is f of the bits of a and b
abbrev pub IsBitByBit : (ℕ → ℕ → ℕ) → ℤ → ℤ → ℤ → Type 0
IsBitByBit f a b c = (i : ℕ) → bit c i ≡ f (bit a i) (bit b i)

-- 1 where both bits are (Michelson reference, AND)
abbrev pub both : ℕ → ℕ → ℕ
both x y = min x y

-- 1 where a bit is (Michelson reference, OR)
abbrev pub either : ℕ → ℕ → ℕ
either x y = max x y

-- 1 where one of the bits is and the other isn't (Michelson reference, XOR)
abbrev pub one_of : ℕ → ℕ → ℕ
one_of x y = (x + y) % 2

-- the three operations on the 128 bits of two ints (Michelson reference, AND, OR and XOR)
abbrev pub bitwise_and : ℤ → ℤ → ℤ
bitwise_and a b = int_bit_and w128 a b

abbrev pub bitwise_or : ℤ → ℤ → ℤ
bitwise_or a b = int_bit_or w128 a b

abbrev pub bitwise_xor : ℤ → ℤ → ℤ
bitwise_xor a b = int_bit_xor w128 a b

-- each bit inverted: -1 - a (Michelson reference, NOT)
abbrev pub complement : ℤ → ℤ
complement a = neg_ℤ (pos 1) -ℤ a
