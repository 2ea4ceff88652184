-- Division and shifts of integers. Sums, differences, products, negation and absolute value are those of ℤ.
use Rattle.std.specs.Prelude.{◌≡◌, ◌^◌, ℤ, pos, ◌+ℤ◌, ◌*ℤ◌, ◌≤ℤ◌, ◌<ℤ◌, int_le, unsigned_abs, Bool, ◌&&◌, ◌==◌, if◌then◌else◌}
use Rattle.std.specs.Prelude.{Result, Ok, Err, Option, Some, None}
use Rattle.std.specs.Int.{int_div_euclid, int_rem_euclid}
use Rattle.rules_data.specs.numbers.Limits.{Limit, integer_limit, shift_limit, is_int, int_or_limit}

-- a is q times b and r more, where the remainder r is from 0 to |b| - 1 (Michelson reference, EDIV)
pub record IsDivision (a b q r : ℤ) : Type 0 where
  pub whole : a ≡ q *ℤ b +ℤ r
  pub not_negative : pos 0 ≤ℤ r
  pub small : r <ℤ pos (unsigned_abs b)

-- q and r are the one quotient and the one remainder
pub record IsOnlyDivision (a b q r : ℤ) : Type 0 where
  pub is_one : IsDivision a b q r
  pub no_other : (p s : ℤ) → IsDivision a b p s → (p ≡ q) × (s ≡ r)

-- none by 0, else the pair of `IsOnlyDivision`, where both parts are ints (Michelson reference, EDIV)
unfoldable pub division : ℤ → ℤ → Result (Option (ℤ × ℤ)) Limit
division a b =
    if unsigned_abs b == 0
    then Ok None
    else (if is_int (int_div_euclid a b) && is_int (int_rem_euclid a b)
    then Ok (Some (int_div_euclid a b, int_rem_euclid a b))
    else Err integer_limit)

-- whether a shift is by at most 256 places (Michelson reference, LSL and LSR)
abbrev pub is_shift : ℤ → Bool
is_shift places = int_le places (pos 256)

-- a times 2^places (Michelson reference, LSL)
unfoldable pub shifted_left : ℤ → ℤ → Result ℤ Limit
shifted_left a places =
    if is_shift places then int_or_limit (a *ℤ pos (2 ^ unsigned_abs places)) else Err shift_limit

-- a divided by 2^places, rounded down (Michelson reference, LSR)
unfoldable pub shifted_right : ℤ → ℤ → Result ℤ Limit
shifted_right a places =
    if is_shift places then Ok (int_div_euclid a (pos (2 ^ unsigned_abs places))) else Err shift_limit
