-- Numbers as bytes, the highest first (Michelson reference, BYTES, NAT and INT).
use Rattle.std.specs.Prelude.{ℕ, zero, suc, ◌+◌, ◌*◌, ◌^◌, nat_lt, ℤ, pos, neg_ℤ, ◌-ℤ◌, ◌*ℤ◌, int_le, int_lt, unsigned_abs, Bool, ◌&&◌, List, [], ◌∷◌, length, if◌then◌else◌}
use Rattle.std.specs.Int.{bytes_high_first, int_rem_euclid}

-- the first number from k on that passes a test, or the one behind so many that don't
abbrev pub least : (ℕ → Bool) → (tries k : ℕ) → ℕ
least passes zero k = k
least passes (suc tries) k = if passes k then k else least passes tries (suc k)

-- ---- to bytes

-- whether k bytes hold a number without a sign; and one in two's complement, twice which is from -256^k to 256^k - 1
abbrev pub holds_natural : ℕ → ℕ → Bool
holds_natural n k = nat_lt n (256 ^ k)

abbrev pub holds_integer : ℤ → ℕ → Bool
holds_integer z k = int_le (neg_ℤ (pos (256 ^ k))) (pos 2 *ℤ z) && int_lt (pos 2 *ℤ z) (pos (256 ^ k))

-- in k bytes
abbrev pub two_complement : ℤ → ℕ → List ℕ
two_complement z k = bytes_high_first k (unsigned_abs (int_rem_euclid z (pos (256 ^ k))))

-- in as few bytes as hold it: none for 0, and at most 16 for an int
abbrev pub natural_bytes : ℕ → List ℕ
natural_bytes n = bytes_high_first (least (holds_natural n) 16 0) n

abbrev pub integer_bytes : ℤ → List ℕ
integer_bytes z = two_complement z (least (holds_integer z) 16 0)

-- ---- from bytes

-- the number without a sign that bytes spell
abbrev pub natural_in : List ℕ → ℕ
natural_in [] = 0
natural_in (c ∷ b) = c * 256 ^ length b + natural_in b

-- the one in two's complement: it is negative where the first byte is 128 or more
abbrev pub integer_in : List ℕ → ℤ
integer_in [] = pos 0
integer_in (c ∷ b) = if nat_lt c 128 then pos (natural_in (c ∷ b)) else pos (natural_in (c ∷ b)) -ℤ pos (256 ^ length (c ∷ b))
