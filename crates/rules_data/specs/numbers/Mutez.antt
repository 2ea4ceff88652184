-- Arithmetic on amounts of mutez.
use Rattle.std.specs.Prelude.{ℕ, ◌+◌, ◌-◌, ◌*◌, nat_le, if◌then◌else◌}
use Rattle.std.specs.Prelude.{Result, Option, Some, None}
use Rattle.rules_data.specs.numbers.Limits.{Limit, mutez_or_limit}

-- the sum of two amounts (Michelson reference, ADD)
abbrev pub mutez_sum : ℕ → ℕ → Result ℕ Limit
mutez_sum a b = mutez_or_limit (a + b)

-- the first amount less the second, or none where that is negative (Michelson reference, SUB_MUTEZ)
abbrev pub mutez_difference : ℕ → ℕ → Option ℕ
mutez_difference a b = if nat_le b a then Some (a - b) else None

-- an amount taken n times (Michelson reference, MUL)
abbrev pub mutez_product : ℕ → ℕ → Result ℕ Limit
mutez_product a n = mutez_or_limit (a * n)
