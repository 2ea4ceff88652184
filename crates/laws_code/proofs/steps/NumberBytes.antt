-- The bytes of numbers are few.
use Rattle.std.proofs.Common.{◌≡◌, ℕ, zero, suc, ◌+◌, ◌≤◌, Bool, true, false, length, refl, subst, sym, ap, arith}
use Rattle.std.specs.Prelude.{ℤ, if◌then◌else◌, pos, ◌^◌, unsigned_abs}
use Rattle.std.specs.Int.{bytes_high_first, int_rem_euclid}
use Rattle.rules_data.specs.numbers.Bytes.{least, holds_natural, holds_integer, natural_bytes, integer_bytes}
use Rattle.rules_data.specs.values.Literals.{is_short}
use Rattle.laws_code.proofs.steps.TextRows.{short_from}

chosen : (b : Bool) (k n most : ℕ) → k ≤ most → n ≤ most → (if b then k else n) ≤ most
chosen true k n most g h = g
chosen false k n most g h = h

least_within : (f : ℕ → Bool) (tries k : ℕ) → least f tries k ≤ k + tries
least_within f zero k = omega arith
least_within f (suc tries) k =
    let h : least f tries (suc k) ≤ suc k + tries = least_within f tries (suc k) in
    chosen (f k) k (least f tries (suc k)) (k + suc tries) (omega arith) (omega arith)

high_length : (k n : ℕ) → length (bytes_high_first k n) ≡ k
high_length zero n = refl
high_length (suc k) n = ap suc (high_length k n)

few : (k n : ℕ) → k ≤ 16 → is_short (bytes_high_first k n) ≡ true
few k n h = let e : length (bytes_high_first k n) ≡ k = high_length k n in short_from (bytes_high_first k n) (omega arith)

pub natural_short : (n : ℕ) → is_short (natural_bytes n) ≡ true
natural_short n = few (least (holds_natural n) 16 0) n (least_within (holds_natural n) 16 0)

pub integer_short : (z : ℤ) → is_short (integer_bytes z) ≡ true
integer_short z =
    few (least (holds_integer z) 16 0) (unsigned_abs (int_rem_euclid z (pos (256 ^ least (holds_integer z) 16 0))))
    (least_within (holds_integer z) 16 0)
