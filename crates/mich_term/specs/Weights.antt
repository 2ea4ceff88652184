-- Weights as the code counts them.
use Rattle.std.specs.Prelude.{ℕ, min, ◌-◌, ◌^◌}

-- at most 2^64-1
abbrev pub capped : ℕ → ℕ
capped n = min n (2 ^ 64 - 1)
