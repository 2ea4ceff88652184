-- Counts are within the limits of numbers.
use Rattle.std.proofs.Common.{◌≡◌, ℕ, ◌<◌, ◌^◌, true, Ok, arith}
use Rattle.std.specs.Prelude.{pos}
use Rattle.std.proofs.lemmas.Bool.Decides.{nat_tests}
use Rattle.rules_data.specs.numbers.Limits.{is_int, int_or_limit}

is_int_count : (n : ℕ) → n < 2 ^ 64 → is_int (pos n) ≡ true
is_int_count n h = grind (arith, nat_tests)

pub count_fits : (n : ℕ) → n < 2 ^ 64 → int_or_limit (pos n) ≡ Ok (pos n)
unfolding int_or_limit
count_fits n h = rw (is_int_count n h)
