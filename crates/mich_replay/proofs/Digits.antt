-- The values of few digits.
use Rattle.std.proofs.Common.{ℕ, zero, suc, ◌*◌, ◌<◌, arith}

-- a power of ten
abbrev pub power : ℕ → ℕ
power zero = 1
power (suc n) = 10 * power n

-- fewer than six digits leave room for one more
pub room_for_digit : (n v : ℕ) → n < 6 → v < power n → v < 100000
room_for_digit zero v h e = omega (arith, e)
room_for_digit (suc zero) v h e = omega (arith, e)
room_for_digit (suc (suc zero)) v h e = omega (arith, e)
room_for_digit (suc (suc (suc zero))) v h e = omega (arith, e)
room_for_digit (suc (suc (suc (suc zero)))) v h e = omega (arith, e)
room_for_digit (suc (suc (suc (suc (suc zero))))) v h e = omega (arith, e)
room_for_digit (suc (suc (suc (suc (suc (suc n)))))) v h e = absurd (omega (arith, h))
