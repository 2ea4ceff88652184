-- The limits of numbers.
use Rattle.std.specs.Prelude.{ℕ, ◌-◌, ◌^◌, nat_le, ℤ, pos, neg_ℤ, int_le, Bool, ◌&&◌, if◌then◌else◌}
use Rattle.std.specs.Prelude.{Result, Ok, Err}
use Rattle.rules_text.specs.nodes.Limits.{most_mutez}

-- the limit that an operation passes
pub data Limit : Type 0 where
  integer_limit : Limit
  mutez_overflow : Limit
  shift_limit : Limit

-- whether z is an int or timestamp of this profile: from -2^127 to 2^127 - 1
-- (Michelson reference, "int" and "nat", which have no bound there)
abbrev pub is_int : ℤ → Bool
is_int z = int_le (neg_ℤ (pos (2 ^ 127))) z && int_le z (pos (2 ^ 127 - 1))

-- the exact number, or the limit where it is no int
unfoldable pub int_or_limit : ℤ → Result ℤ Limit
int_or_limit z = if is_int z then Ok z else Err integer_limit

-- whether n is an amount of mutez: at most 2^63 - 1 (Michelson reference, "mutez")
abbrev pub is_mutez : ℕ → Bool
is_mutez n = nat_le n most_mutez

-- the exact amount, or the limit where it is no amount of mutez
unfoldable pub mutez_or_limit : ℕ → Result ℕ Limit
mutez_or_limit n = if is_mutez n then Ok n else Err mutez_overflow
