-- Integers are read as they are spelt.
use Rattle.std.proofs.Common.{◌≡◌, ℕ, zero, suc, ◌+◌, ◌-◌, ◌*◌, ◌/◌, ◌%◌, ◌^◌, ◌<◌, ◌≤◌, Bool, true, false, cond, ltb, nat_lt, nat_le, nat_eq, List, [], ◌∷◌, ◌++◌, length, take, drop, slice_get, Option, Some, None, Ok, refl, sym, ap, ◌∙◌, arith}
use Rattle.std.specs.Prelude.{ℤ, pos, neg_ℤ}
use Rattle.std.specs.List.{prefix_len}
use Rattle.std.proofs.lemmas.Bool.{ltb-false}
use Rattle.std.proofs.lemmas.Bool.Decides.{nat_tests}
use Rattle.std.proofs.lemmas.List.{take-append-drop}
use Rattle.rules_text.specs.declared.binary.DecodeKind.TheVariants.{BadLength}
use Rattle.rules_text.specs.binary.Spelling.{groups_within, groups, signed_groups, integer}
use Rattle.rules_text.specs.binary.Reading.{Spot, past, goes_on, groups_value, is_longer, is_longer_by, ranged, integer_of, integer_by, integer_at}
use Rattle.laws_data.specs.binary.Laws.{IsBytes, IntegersAreSpelt}
use Rattle.laws_data.proofs.binary_lemmas.Fields.{guard_ok, ok_is, IsBytes-take}

groups_by : (n k l : ℕ) (b : Bool) → groups_within k (n / 128) ≡ groups_within l (n / 128) → cond b (n ∷ []) ((128 + n % 128) ∷ groups_within k (n / 128)) ≡ cond b (n ∷ []) ((128 + n % 128) ∷ groups_within l (n / 128))
groups_by n k l true e = refl
groups_by n k l false e = ap (λ (gs : List ℕ). (128 + n % 128) ∷ gs) e

same_groups : (k l n : ℕ) → n ≤ k → n ≤ l → groups_within k n ≡ groups_within l n
same_groups zero zero n h i = refl
same_groups zero (suc l) n h i = let small : nat_lt n 128 ≡ true = grind (arith, nat_tests) in rw small refl
same_groups (suc k) zero n h i = let small : nat_lt n 128 ≡ true = grind (arith, nat_tests) in rw small refl
same_groups (suc k) (suc l) n h i = groups_by n k l (nat_lt n 128) (same_groups k l (n / 128) (omega arith) (omega arith))

many_by : (k n : ℕ) → n ≡ suc k → 128 ≤ n → groups_within n n ≡ (128 + n % 128) ∷ groups_within (n / 128) (n / 128)
many_by k n e h =
    let large : nat_lt n 128 ≡ false = grind (arith, nat_tests) in
    let first : groups_within n n ≡ groups_within (suc k) n = ap (λ m. groups_within m n) e in
    first ∙ rw large (ap (λ (gs : List ℕ). (128 + n % 128) ∷ gs) (same_groups k (n / 128) (n / 128) (omega arith) (omega arith)))

pub more_groups : (n : ℕ) → 128 ≤ n → groups n ≡ (128 + n % 128) ∷ groups (n / 128)
unfolding groups
more_groups n h = many_by (n - 1) n (omega arith) h

few : (k n : ℕ) → n < 128 → groups_within k n ≡ n ∷ []
few zero n h = refl
few (suc k) n h = let small : nat_lt n 128 ≡ true = grind (arith, nat_tests) in rw small refl

pub one_group : (n : ℕ) → n < 128 → groups n ≡ n ∷ []
unfolding groups
one_group n h = few n n h

-- each byte but the last says that another follows
abbrev pub IsRun : List ℕ → Type 0
IsRun [] = ⊥
IsRun (b ∷ []) = b < 128
IsRun (b ∷ c ∷ cs) = (128 ≤ b) × IsRun (c ∷ cs)

pub longer_run : (b : ℕ) (bs : List ℕ) → 128 ≤ b → IsRun bs → IsRun (b ∷ bs)
longer_run b [] h r = absurd r
longer_run b (c ∷ cs) h r = (h, r)

run_by : (b : ℕ) (bs : List ℕ) (m : ℕ) (t : Bool) → goes_on b ≡ t → (m < length bs → IsRun (take (m + 1) bs)) → cond t (1 + m) 0 < suc (length bs) → IsRun (take (cond t (1 + m) 0 + 1) (b ∷ bs))
run_by b bs m true t later h =
    let k : 1 + m + 1 ≡ suc (m + 1) = omega arith in
    rw k (longer_run b (take (m + 1) bs) (grind (arith, nat_tests)) (later (omega arith)))
run_by b bs m false t later h = grind (arith, nat_tests)

run_at : (xs : List ℕ) → prefix_len goes_on xs < length xs → IsRun (take (prefix_len goes_on xs + 1) xs)
run_at [] h = absurd (omega arith)
run_at (b ∷ bs) h = run_by b bs (prefix_len goes_on bs) (goes_on b) refl (run_at bs) h

-- the last byte adds something
abbrev IsShortest : List ℕ → Type 0
IsShortest [] = ⊥
IsShortest (b ∷ []) = 0 < b
IsShortest (b ∷ c ∷ cs) = IsShortest (c ∷ cs)

shortest : (b c : ℕ) (cs : List ℕ) → is_longer_by b (slice_get (c ∷ cs) (length cs)) ≡ false → IsShortest (c ∷ cs)
shortest b zero [] e = absurd cc
shortest b (suc c) [] e = omega arith
shortest b c (d ∷ ds) e = shortest b d ds e

positive : (bs : List ℕ) → IsRun bs → IsShortest bs → 1 ≤ groups_value bs
positive [] r s = absurd r
positive (b ∷ []) r s = omega (arith, r, s)
positive (b ∷ c ∷ cs) r s = omega (arith, positive (c ∷ cs) r.1 s)

-- groups are spelt by their bytes
groups_again : (bs : List ℕ) → IsBytes bs → IsRun bs → IsShortest bs → groups (groups_value bs) ≡ bs
groups_again [] fits r s = absurd r
groups_again (b ∷ []) fits r s =
    let v : groups_value (b ∷ []) ≡ b = omega (arith, r) in
    ap groups v ∙ one_group b r
groups_again (b ∷ c ∷ cs) fits r s =
    let v = groups_value (c ∷ cs) in
    let x = b % 128 + 128 * v in
    let some : 1 ≤ v = positive (c ∷ cs) r.1 s in
    let low : 128 + x % 128 ≡ b = omega (arith, r.0, fits 0) in
    let high : x / 128 ≡ v = omega arith in
    more_groups x (omega (arith, some)) ∙ rw (low, high) (ap (λ (t : List ℕ). b ∷ t) (groups_again (c ∷ cs) (λ i. fits (suc i)) r.1 s))

some_guard : (b : Bool) (o : Option ℤ) (z : ℤ) → cond b None o ≡ Some z → (b ≡ false) × (o ≡ Some z)
some_guard true o z e = absurd cc
some_guard false o z e = (refl, e)

negative_spelt : (n : ℕ) → 0 < n → integer (neg_ℤ (pos n)) ≡ signed_groups 64 n
unfolding integer
negative_spelt zero h = absurd (omega arith)
negative_spelt (suc m) h = refl

-- an integer within its range is spelt by its sign and absolute value
ranged_spelt : (negative : Bool) (n : ℕ) (z : ℤ) → ranged negative n ≡ Some z → (negative ≡ true → 0 < n) → integer z ≡ signed_groups (cond negative 64 0) n
unfolding integer
ranged_spelt true n z e h =
    let g = some_guard (ltb (2 ^ 127) n) (Some (neg_ℤ (pos n))) z e in
    let same : neg_ℤ (pos n) ≡ z = cc (g.1) in
    ap integer (sym same) ∙ negative_spelt n (h refl)
ranged_spelt false n z e h =
    let g = some_guard (nat_le (2 ^ 127) n) (Some (pos n)) z e in
    let same : pos n ≡ z = cc (g.1) in
    ap integer (sym same)

-- one byte
one_byte : (b : ℕ) (negative : Bool) → nat_le 64 (b % 128) ≡ negative → b < 128 → signed_groups (cond negative 64 0) (b % 64 + 64 * 0) ≡ b ∷ []
one_byte b true t h =
    let small : nat_lt (b % 64 + 64 * 0) 64 ≡ true = grind (arith, nat_tests) in
    let high : 64 ≤ b % 128 = grind (arith, nat_tests) in
    let same : 64 + (b % 64 + 64 * 0) ≡ b = omega (arith, high) in
    rw small (ap (λ (x : ℕ). x ∷ []) same)
one_byte b false t h =
    let small : nat_lt (b % 64 + 64 * 0) 64 ≡ true = grind (arith, nat_tests) in
    let low : b % 128 < 64 = grind (arith, nat_tests) in
    let same : 0 + (b % 64 + 64 * 0) ≡ b = omega (arith, low) in
    rw small (ap (λ (x : ℕ). x ∷ []) same)

-- a first byte and groups
more_bytes : (b v : ℕ) (bs : List ℕ) (negative : Bool) → nat_le 64 (b % 128) ≡ negative → 128 ≤ b → b < 256 → 1 ≤ v → groups v ≡ bs → signed_groups (cond negative 64 0) (b % 64 + 64 * v) ≡ b ∷ bs
more_bytes b v bs true t h l some e =
    let n = b % 64 + 64 * v in
    let large : nat_lt n 64 ≡ false = grind (arith, nat_tests) in
    let high : 64 ≤ b % 128 = grind (arith, nat_tests) in
    let same : 128 + 64 + n % 64 ≡ b = omega (arith, high) in
    let rest : n / 64 ≡ v = omega arith in
    rw (large, rest, same) (ap (λ (t : List ℕ). b ∷ t) e)
more_bytes b v bs false t h l some e =
    let n = b % 64 + 64 * v in
    let large : nat_lt n 64 ≡ false = grind (arith, nat_tests) in
    let low : b % 128 < 64 = grind (arith, nat_tests) in
    let same : 128 + 0 + n % 64 ≡ b = omega (arith, low) in
    let rest : n / 64 ≡ v = omega arith in
    rw (large, rest, same) (ap (λ (t : List ℕ). b ∷ t) e)

integer_spelt : (bs : List ℕ) (z : ℤ) → IsBytes bs → IsRun bs → integer_of bs ≡ Some z → integer z ≡ bs
integer_spelt [] z fits r e = absurd cc
integer_spelt (b ∷ []) z fits r e =
    let g = some_guard (nat_eq b 64) (ranged (nat_le 64 (b % 128)) (b % 64 + 64 * 0)) z e in
    ranged_spelt (nat_le 64 (b % 128)) (b % 64 + 64 * 0) z g.1 (λ t. grind (arith, nat_tests)) ∙ one_byte b (nat_le 64 (b % 128)) refl r
integer_spelt (b ∷ c ∷ cs) z fits r e =
    let v = groups_value (c ∷ cs) in
    let g = some_guard (is_longer b (c ∷ cs)) (ranged (nat_le 64 (b % 128)) (b % 64 + 64 * v)) z e in
    let last : suc (length cs) - 1 ≡ length cs = omega arith in
    let ends : is_longer_by b (slice_get (c ∷ cs) (length cs)) ≡ false = ap (λ k. is_longer_by b (slice_get (c ∷ cs) k)) (sym last) ∙ g.0 in
    let short = shortest b c cs ends in
    let some : 1 ≤ v = positive (c ∷ cs) r.1 short in
    ranged_spelt (nat_le 64 (b % 128)) (b % 64 + 64 * v) z g.1 (λ t. omega (arith, some))
    ∙ more_bytes b v (c ∷ cs) (nat_le 64 (b % 128)) refl r.0 (fits 0) some (groups_again (c ∷ cs) (λ i. fits (suc i)) r.1 short)

integer_by_is : (o : Option ℤ) (n : ℕ) (s : Spot) (x : ℤ × Spot) → integer_by o n s ≡ Ok x → (o ≡ Some x.0) × (past n s ≡ x.1)
integer_by_is None n s x e = absurd cc
integer_by_is (Some z) n s x e = let same = ok_is (z, past n s) x e in (ap (λ (p : ℤ × Spot). Some p.0) same, ap (λ (p : ℤ × Spot). p.1) same)

pub integers_are_spelt : IntegersAreSpelt
unfolding integer_at
integers_are_spelt s after z fits e =
    let xs = s.left in
    let n = prefix_len goes_on xs + 1 in
    let g = guard_ok (ltb (length xs) n) (record { kind = BadLength; place = s.place }) (integer_by (integer_of (take n xs)) n s) (z, after) e in
    let long : n ≤ length xs = ltb-false _ _ g.0 in
    let i = integer_by_is (integer_of (take n xs)) n s (z, after) g.1 in
    let spelt : integer z ≡ take n xs = integer_spelt (take n xs) z (IsBytes-take n xs fits) (run_at xs (omega arith)) i.0 in
    let rest : drop n xs ≡ after.left = ap (λ (t : Spot). t.left) i.1 in
    sym (take-append-drop n xs) ∙ ap (λ (t : List ℕ). t ++ drop n xs) (sym spelt) ∙ ap (λ (t : List ℕ). integer z ++ t) rest
