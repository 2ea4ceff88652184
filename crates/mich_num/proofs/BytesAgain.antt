-- The bytes of a number are read again as that number.
use Rattle.std.proofs.Common.{◌≡◌, ℕ, zero, suc, ◌+◌, ◌-◌, ◌*◌, ◌/◌, ◌%◌, ◌^◌, ◌<◌, ◌≤◌, List, ◌∷◌, length, refl, arith, sym, ap, ◌∙◌, true, false, subst, inl, inr, ◌⊎◌, IsTrue}
use Rattle.std.specs.Prelude.{ℤ, pos, negsuc, ◌-ℤ◌, ◌≤ℤ◌, Bool, nat_lt, if◌then◌else◌, FitsSigned, unsigned_abs}
use Rattle.std.specs.Int.{w128, byte_at, bytes_high_first}
use Rattle.std.proofs.lemmas.Int.{ints}
use Rattle.std.proofs.lemmas.Bool.Decides.{nat_tests}
use Rattle.std.proofs.lemmas.Nat.{mod-pow-add}
use Rattle.std.proofs.Math.Nat.{mod-eq_of_lt, div-lt_iff_lt-mul, pow-succ'}
use Rattle.rules_data.specs.numbers.Bytes.{least, holds_natural, natural_bytes, integer_bytes, two_complement, natural_in, integer_in}
use Rattle.mich_num.specs.View.{twice}
use Rattle.mich_num.proofs.WriteBytes.{pow256, positive, high_length, byte_at-pow, integer_length}

chosen : (f : ℕ → Bool) (k n : ℕ) (b : Bool) → f k ≡ b → f n ≡ true → f (if b then k else n) ≡ true
chosen f k n true e h = e
chosen f k n false e h = h

least_passes : (f : ℕ → Bool) (tries k : ℕ) → f (k + tries) ≡ true → f (least f tries k) ≡ true
least_passes f zero k h = let e : k + 0 ≡ k = omega arith in subst (λ j. f j ≡ true) e h
least_passes f (suc tries) k h =
    let e : k + suc tries ≡ suc k + tries = omega arith in
    chosen f k (least f tries (suc k)) (f k) refl (least_passes f tries (suc k) (subst (λ j. f j ≡ true) e h))

below_test : (n P : ℕ) → n < P → nat_lt n P ≡ true
below_test n P h = grind (arith, nat_tests)

below_fact : (n P : ℕ) → nat_lt n P ≡ true → n < P
below_fact n P h = grind (arith, nat_tests)

held_by_least : (n : ℕ) → n < 2 ^ 128 → n < 256 ^ least (holds_natural n) 16 0
held_by_least n h = below_fact n (256 ^ least (holds_natural n) 16 0) (least_passes (holds_natural n) 16 0 (below_test n (256 ^ 16) (omega arith)))

-- ---- without a sign

split_byte : (k x : ℕ) → x % 256 ^ suc k ≡ byte_at k x * 256 ^ k + x % 256 ^ k
split_byte k x =
    let place : 256 ^ suc k ≡ 2 ^ (8 + 8 * k) = let e : 8 * suc k ≡ 8 + 8 * k = omega arith in pow256 (suc k) ∙ ap (λ y. 2 ^ y) e in
    ap (λ y. x % y) place ∙ mod-pow-add x 8 (8 * k) ∙ ap (λ y. (x / y % 2 ^ 8) * y + x % y) (sym (pow256 k)) ∙ ap (λ y. y * 256 ^ k + x % 256 ^ k) (sym (byte_at-pow k x))

pub natural_read : (k x : ℕ) → natural_in (bytes_high_first k x) ≡ x % 256 ^ k
natural_read zero x = omega arith
natural_read (suc k) x =
    ap (λ n. byte_at k x * 256 ^ n + natural_in (bytes_high_first k x)) (high_length k x) ∙ ap (λ y. byte_at k x * 256 ^ k + y) (natural_read k x) ∙ sym (split_byte k x)

pub natural_again : (n : ℕ) → n < 2 ^ 128 → natural_in (natural_bytes n) ≡ n
natural_again n h = natural_read (least (holds_natural n) 16 0) n ∙ mod-eq_of_lt (held_by_least n h)

-- ---- in two's complement

small_first : (k n : ℕ) → 2 * n < 256 ^ suc k → byte_at k n < 128
small_first k n h =
    let place : 256 ^ suc k ≡ 256 * 256 ^ k = pow-succ' 256 k in
    let part : n / 256 ^ k < 128 = (div-lt_iff_lt-mul {k = 256 ^ k} {x = n} {y = 128} (positive k)).1 (omega (arith, place)) in
    let is : byte_at k n ≡ n / 256 ^ k = byte_at-pow k n ∙ mod-eq_of_lt (omega arith) in
    omega (arith, is)

large_first : (k n : ℕ) → 2 * n + 1 < 256 ^ suc k → 128 ≤ byte_at k (256 ^ suc k - 1 - n)
large_first k n h =
    let place : 256 ^ suc k ≡ 256 * 256 ^ k = pow-succ' 256 k in
    let part : (256 ^ suc k - 1 - n) / 256 ^ k < 256 = (div-lt_iff_lt-mul {k = 256 ^ k} {x = 256 ^ suc k - 1 - n} {y = 256} (positive k)).1 (omega (arith, place)) in
    let is : byte_at k (256 ^ suc k - 1 - n) ≡ (256 ^ suc k - 1 - n) / 256 ^ k = byte_at-pow k (256 ^ suc k - 1 - n) ∙ mod-eq_of_lt part in
    let above : (256 ^ suc k - 1 - n) / 256 ^ k < 128 → ⊥ =
    λ low. not_below (256 ^ k) n (256 ^ suc k) place h ((div-lt_iff_lt-mul {k = 256 ^ k} {x = 256 ^ suc k - 1 - n} {y = 128} (positive k)).0 low) in
    at_least (byte_at k (256 ^ suc k - 1 - n)) ((256 ^ suc k - 1 - n) / 256 ^ k) is above
  where
    not_below : (p n P : ℕ) → P ≡ 256 * p → 2 * n + 1 < P → P - 1 - n < 128 * p → ⊥
    not_below p n P e h low = omega arith

    at_least : (b q : ℕ) → b ≡ q → (q < 128 → ⊥) → 128 ≤ b
    at_least b q e h = grind arith

low_byte : (c : ℕ) (b : List ℕ) → c < 128 → integer_in (c ∷ b) ≡ pos (natural_in (c ∷ b))
low_byte c b h = rw (below_test c 128 h) refl

not_test : (n P : ℕ) → P ≤ n → nat_lt n P ≡ false
not_test n P h = grind (arith, nat_tests)

high_byte : (c : ℕ) (b : List ℕ) → 128 ≤ c → integer_in (c ∷ b) ≡ pos (natural_in (c ∷ b)) -ℤ pos (256 ^ length (c ∷ b))
high_byte c b h = rw (not_test c 128 h) refl

negative : (n P : ℕ) → n < P → pos (P - 1 - n) -ℤ pos P ≡ negsuc n
negative n P h = omega (arith, ints)

read_pos : (n k : ℕ) → 2 * n < 256 ^ k → integer_in (bytes_high_first k n) ≡ pos n
read_pos n zero h = ap pos (omega arith)
read_pos n (suc k) h =
    low_byte (byte_at k n) (bytes_high_first k n) (small_first k n h) ∙ ap pos (natural_read (suc k) n ∙ mod-eq_of_lt (omega arith))

read_neg : (n k : ℕ) → 2 * n + 1 < 256 ^ k → integer_in (bytes_high_first k (256 ^ k - 1 - n)) ≡ negsuc n
read_neg n zero h = absurd (omega arith)
read_neg n (suc k) h =
    let x : natural_in (bytes_high_first (suc k) (256 ^ suc k - 1 - n)) ≡ 256 ^ suc k - 1 - n = natural_read (suc k) (256 ^ suc k - 1 - n) ∙ mod-eq_of_lt (omega arith) in
    high_byte (byte_at k (256 ^ suc k - 1 - n)) (bytes_high_first k (256 ^ suc k - 1 - n)) (large_first k n h)
    ∙ ap (λ y. pos y -ℤ pos (256 ^ length (bytes_high_first (suc k) (256 ^ suc k - 1 - n)))) x
    ∙ ap (λ y. pos (256 ^ suc k - 1 - n) -ℤ pos (256 ^ y)) (high_length (suc k) (256 ^ suc k - 1 - n)) ∙ negative n (256 ^ suc k) (omega arith)

again : (z : ℤ) (k : ℕ) → twice z < 256 ^ k → integer_in (two_complement z k) ≡ z
again (pos n) k h = ap (λ x. integer_in (bytes_high_first k x)) (mod-eq_of_lt {n = n} {m = 256 ^ k} (omega arith)) ∙ read_pos n k h
again (negsuc n) k h = ap (λ x. integer_in (bytes_high_first k (256 ^ k - 1 - x))) (mod-eq_of_lt {n = n} {m = 256 ^ k} (omega arith)) ∙ read_neg n k h

twice_fits : (z : ℤ) → FitsSigned w128 z → twice z < 2 ^ 128
twice_fits (pos n) h = let k : n < 2 ^ 127 = h.sfits in omega arith
twice_fits (negsuc n) h = let k : n < 2 ^ 127 = h.sfits in omega arith

pub integer_again : (z : ℤ) → FitsSigned w128 z → integer_in (integer_bytes z) ≡ z
integer_again z h =
    ap (λ k. integer_in (two_complement z k)) (integer_length z) ∙ again z (least (holds_natural (twice z)) 16 0) (held_by_least (twice z) (twice_fits z h))

-- ---- with a sign or without

not_negative : (n : ℕ) → IsTrue false ⊎ pos 0 ≤ℤ negsuc n → ⊥
not_negative n (inl h) = cc
not_negative n (inr h) = omega (arith, ints, h)

pub read_again : (signed : Bool) (a : ℤ) (b : List ℕ) → FitsSigned w128 a → IsTrue signed ⊎ pos 0 ≤ℤ a
    → b ≡ (if signed then integer_bytes a else natural_bytes (unsigned_abs a)) → (if signed then integer_in b else pos (natural_in b)) ≡ a
read_again true a b fits h e = ap integer_in e ∙ integer_again a fits
read_again false (pos n) b fits h e = let k : n < 2 ^ 127 = fits.sfits in ap (λ x. pos (natural_in x)) e ∙ ap pos (natural_again n (omega arith))
read_again false (negsuc n) b fits h e = absurd (not_negative n h)
