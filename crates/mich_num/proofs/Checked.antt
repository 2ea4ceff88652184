-- Checked operations on `i128`.
use Rattle.std.proofs.Common.{◌≡◌, ℕ, ◌^◌, ◌-◌, ◌<◌, Option, Some, None, Err, true, false, arith, zero, suc}
use Rattle.std.specs.Prelude.{ℤ, pos, negsuc, neg_ℤ, FitsSigned, SomeIff, unsigned_abs, nat_le}
use Rattle.std.specs.Option.{ok_or}
use Rattle.std.specs.Int.{w128}
use Rattle.std.proofs.lemmas.Bool.Decides.{nat_tests}
use Rattle.rules_data.specs.numbers.Limits.{is_int, int_or_limit, mutez_or_limit, mutez_overflow}
use Rattle.mich_num.specs.View.{limited}
use Rattle.mich_num.specs.declared.fault.NumFault.TheVariants.{IntegerLimit}

pub int_fits : (z : ℤ) → FitsSigned w128 z → is_int z ≡ true
int_fits (pos n) h = let k : n < 2 ^ 127 = h.sfits in grind (arith, nat_tests)
int_fits (negsuc n) h = let k : n < 2 ^ 127 = h.sfits in grind (arith, nat_tests)

pub no_int_unless_fits : (z : ℤ) → (FitsSigned w128 z → ⊥) → is_int z ≡ false
no_int_unless_fits (pos n) h =
    let k : n < 2 ^ 127 → ⊥ = λ (l : n < 2 ^ 127). h (record { sfits = l }) in grind (arith, nat_tests)
no_int_unless_fits (negsuc n) h =
    let k : n < 2 ^ 127 → ⊥ = λ (l : n < 2 ^ 127). h (record { sfits = l }) in grind (arith, nat_tests)

pub limited_checked : (o : Option ℤ) (z : ℤ) → SomeIff o (FitsSigned w128 z) z → limited (ok_or o IntegerLimit) ≡ int_or_limit z
unfolding int_or_limit
limited_checked (Some x) z h = rw (h.1, int_fits z h.0)
limited_checked None z h = rw (no_int_unless_fits z h)

neg_fits : (n : ℕ) → FitsSigned w128 (pos n) → FitsSigned w128 (neg_ℤ (pos n))
neg_fits zero h = h
neg_fits (suc n) h = let k : suc n < 2 ^ 127 = h.sfits in record { sfits = omega arith }

pub abs_checked : (o : Option ℤ) (a : ℤ) → FitsSigned w128 a → SomeIff o (FitsSigned w128 (neg_ℤ a)) (pos (unsigned_abs a)) → limited (ok_or o IntegerLimit) ≡ int_or_limit (pos (unsigned_abs a))
abs_checked o (negsuc n) fits h = limited_checked o (pos (suc n)) h
abs_checked (Some x) (pos n) fits h = limited_checked (Some x) (pos n) (fits, h.1)
abs_checked None (pos n) fits h = absurd (h (neg_fits n fits))

pub over_mutez : (n : ℕ) → (n < 2 ^ 128 → ⊥) → mutez_or_limit n ≡ Err mutez_overflow
unfolding mutez_or_limit
over_mutez n h = let e : nat_le n (2 ^ 63 - 1) ≡ false = grind (arith, nat_tests) in rw e
