-- The bytes that hold a number.
use Rattle.std.proofs.Common.{◌≡◌, ℕ, zero, suc, ◌+◌, ◌-◌, ◌*◌, ◌/◌, ◌%◌, ◌^◌, ◌<◌, ◌≤◌, List, ◌∷◌, ◌++◌, length, refl, arith, sym, ap, ◌∙◌, true, false, take, drop, inl, inr, subst, ◌⊎◌}
use Rattle.std.specs.Prelude.{ℤ, pos, negsuc, neg_ℤ, ◌*ℤ◌, ◌≤ℤ◌, int_le, int_lt, Bool, IsTrue, ◌&&◌, nat_lt, if◌then◌else◌, FitsSigned, unsigned_abs}
use Rattle.std.specs.Int.{w128, byte_at, bytes_high_first, cast_unsigned, cast_signed, int_rem_euclid}
use Rattle.std.proofs.lemmas.Int.{to_z-of_z}
use Rattle.std.proofs.lemmas.Bool.{cases_lt}
use Rattle.std.proofs.lemmas.Bool.Decides.{nat_tests}
use Rattle.std.proofs.lemmas.Nat.{pow-add, div-add-mod', mod_below}
use Rattle.std.proofs.lemmas.List.{take_all, take-append-le}
use Rattle.std.proofs.Math.Nat.{pow-suc, pow-succ', add-mul, mul_assoc, one-le-pow, div-eq_of_lt, mod-eq_of_lt, mul-add-div_right, mul-add-mod_self_right}
use Rattle.rules_data.specs.numbers.Bytes.{least, holds_natural, holds_integer, natural_bytes, integer_bytes, two_complement}
use Rattle.mich_num.specs.View.{twice}

-- ---- how many

pub pow256 : (n : ℕ) → 256 ^ n ≡ 2 ^ (8 * n)
pow256 zero = refl
pow256 (suc n) =
    let e : 8 * suc n ≡ 8 * n + 8 = omega arith in
    rw (pow-suc 256 n, pow256 n, e, pow-add 2 (8 * n) 8) refl

pub positive : (n : ℕ) → 0 < 256 ^ n
positive n = let h = one-le-pow n 256 (omega arith) in omega arith

nothing_above : (n P : ℕ) → 0 < P → n / P ≡ 0 → n < P
nothing_above n P h e =
    let split : n / P * P + n % P ≡ n = div-add-mod' n P in
    let none : n / P * P ≡ 0 * P = ap (λ x. x * P) e in
    let rest : n % P < P = mod_below n P h in
    omega (arith, split, none, rest)

pub held : (n k : ℕ) → n / 2 ^ (8 * k) ≡ 0 → n < 256 ^ k
held n k e = nothing_above n (256 ^ k) (positive k) (ap (λ x. n / x) (pow256 k) ∙ e)

passes : (n P : ℕ) → n < P → nat_lt n P ≡ true
passes n P h = grind (arith, nat_tests)

found : (n k t : ℕ) → n / 2 ^ (8 * k) ≡ 0 → least (holds_natural n) (suc t) k ≡ k
found n k t e = rw (passes n (256 ^ k) (held n k e)) refl

fails : (n P : ℕ) → (n < P → ⊥) → nat_lt n P ≡ false
fails n P h = grind (arith, nat_tests)

not_yet : (n k t : ℕ) → (n / 2 ^ (8 * k) ≡ 0 → ⊥) → least (holds_natural n) (suc t) k ≡ least (holds_natural n) t (suc k)
not_yet n k t h =
    let no : nat_lt n (256 ^ k) ≡ false = fails n (256 ^ k) (λ l. h (ap (λ x. n / x) (sym (pow256 k)) ∙ div-eq_of_lt l)) in
    rw no refl

pub found_at : (n k : ℕ) → k < 16 → least (holds_natural n) 16 0 ≡ least (holds_natural n) (16 - k) k → n / 2 ^ (8 * k) ≡ 0 → k ≡ least (holds_natural n) 16 0
found_at n k h e small =
    let one : 16 - k ≡ suc (15 - k) = omega arith in
    sym (e ∙ ap (λ t. least (holds_natural n) t k) one ∙ found n k (15 - k) small)

pub goes_on : (n k : ℕ) → k < 16 → least (holds_natural n) 16 0 ≡ least (holds_natural n) (16 - k) k → (n / 2 ^ (8 * k) ≡ 0 → ⊥)
    → least (holds_natural n) 16 0 ≡ least (holds_natural n) (16 - (k + 1)) (k + 1)
goes_on n k h e large =
    let one : 16 - k ≡ suc (15 - k) = omega arith in
    let fewer : 15 - k ≡ 16 - (k + 1) = omega arith in
    let next : suc k ≡ k + 1 = omega arith in
    e ∙ ap (λ t. least (holds_natural n) t k) one ∙ not_yet n k (15 - k) large
    ∙ ap (λ t. least (holds_natural n) t (suc k)) fewer ∙ ap (least (holds_natural n) (16 - (k + 1))) next

pub at_end : (n k : ℕ) → 16 ≤ k → k ≤ 16 → least (holds_natural n) 16 0 ≡ least (holds_natural n) (16 - k) k → 16 ≡ least (holds_natural n) 16 0
at_end n k low high e =
    let is : k ≡ 16 = omega arith in
    sym (e ∙ ap (λ j. least (holds_natural n) (16 - j) j) is)

-- ---- the bytes themselves

low_bytes : (k n x : ℕ) → n ≤ k → drop (k - n) (bytes_high_first k x) ≡ bytes_high_first n x
low_bytes zero n x h = let e : n ≡ 0 = omega arith in rw e refl
low_bytes (suc k) n x h = elim (cases_lt k n) [
  | inl top ↦
      let e : n ≡ suc k = omega arith in
      let z : suc k - n ≡ 0 = omega arith in
      rw (z, e) refl
  | inr lower ↦
      let e : suc k - n ≡ suc (k - n) = omega arith in
      rw e (low_bytes k n x lower)
]

pub high_length : (n x : ℕ) → length (bytes_high_first n x) ≡ n
high_length zero x = refl
high_length (suc n) x = ap suc (high_length n x)

pub byte_at-pow : (k x : ℕ) → byte_at k x ≡ x / 256 ^ k % 256
byte_at-pow zero x = omega arith
byte_at-pow (suc k) x = refl

-- what stands above the bytes doesn't tell
byte_above : (i m x : ℕ) → byte_at i (m * 256 ^ suc i + x) ≡ byte_at i x
byte_above i m x =
    let power : 256 ^ suc i ≡ 256 * 256 ^ i = pow-succ' 256 i in
    let moved : m * (256 * 256 ^ i) ≡ m * 256 * 256 ^ i = sym (mul_assoc m 256 (256 ^ i)) in
    let number : m * 256 ^ suc i + x ≡ m * 256 * 256 ^ i + x = ap (λ y. m * y + x) power ∙ ap (λ y. y + x) moved in
    let digits : (m * 256 * 256 ^ i + x) / 256 ^ i ≡ m * 256 + x / 256 ^ i = mul-add-div_right (positive i) (m * 256) x in
    byte_at-pow i (m * 256 ^ suc i + x) ∙ ap (λ y. y / 256 ^ i % 256) number ∙ ap (λ y. y % 256) digits
    ∙ mul-add-mod_self_right m 256 (x / 256 ^ i) ∙ sym (byte_at-pow i x)

above : (k j m x : ℕ) → bytes_high_first k (m * 256 ^ (k + j) + x) ≡ bytes_high_first k x
above zero j m x = refl
above (suc k) j m x =
    let place : 256 ^ (suc k + j) ≡ 256 ^ j * 256 ^ suc k = ap (λ e. 256 ^ e) (omega arith) ∙ pow-add 256 j (suc k) in
    let number : m * 256 ^ (suc k + j) ≡ m * 256 ^ j * 256 ^ suc k = ap (λ y. m * y) place ∙ sym (mul_assoc m (256 ^ j) (256 ^ suc k)) in
    let first : byte_at k (m * 256 ^ (suc k + j) + x) ≡ byte_at k x = ap (λ y. byte_at k (y + x)) number ∙ byte_above k (m * 256 ^ j) x in
    let e : suc k + j ≡ k + suc j = omega arith in
    let rest : bytes_high_first k (m * 256 ^ (suc k + j) + x) ≡ bytes_high_first k x = ap (λ y. bytes_high_first k (m * 256 ^ y + x)) e ∙ above k (suc j) m x in
    ap (λ c. c ∷ bytes_high_first k (m * 256 ^ (suc k + j) + x)) first ∙ ap (λ l. byte_at k x ∷ l) rest

-- ---- a number in the bytes that hold it

same_least : (f g : ℕ → Bool) → ((k : ℕ) → f k ≡ g k) → (tries k : ℕ) → least f tries k ≡ least g tries k
same_least f g h zero k = refl
same_least f g h (suc tries) k = rw (h k, same_least f g h tries (suc k)) refl

holds_pos : (n P : ℕ) → 0 < P → (int_le (neg_ℤ (pos P)) (pos 2 *ℤ pos n) && int_lt (pos 2 *ℤ pos n) (pos P)) ≡ nat_lt (2 * n) P
holds_pos n (suc P) h = refl
holds_pos n zero h = absurd (omega arith)

holds_neg : (n P : ℕ) → 0 < P → (int_le (neg_ℤ (pos P)) (pos 2 *ℤ negsuc n) && int_lt (pos 2 *ℤ negsuc n) (pos P)) ≡ nat_lt (2 * n + 1) P
holds_neg n (suc P) h = grind (arith, nat_tests)
holds_neg n zero h = absurd (omega arith)

holds_alike : (z : ℤ) (k : ℕ) → holds_integer z k ≡ holds_natural (twice z) k
holds_alike (pos n) k = holds_pos n (256 ^ k) (positive k)
holds_alike (negsuc n) k = holds_neg n (256 ^ k) (positive k)

pub integer_length : (z : ℤ) → least (holds_integer z) 16 0 ≡ least (holds_natural (twice z)) 16 0
integer_length z = same_least (holds_integer z) (holds_natural (twice z)) (holds_alike z) 16 0

complement : (n k j : ℕ) → n < 256 ^ k → k + j ≡ 16 → 2 ^ 128 - suc n ≡ (256 ^ j - 1) * 256 ^ k + (256 ^ k - 1 - n)
complement n k j h e =
    let places : j + k ≡ 16 = omega arith in
    let whole : 256 ^ j * 256 ^ k ≡ 256 ^ 16 = sym (pow-add 256 j k) ∙ ap (λ x. 256 ^ x) places in
    let least_is : 1 ≤ 256 ^ j = positive j in
    let parts : (256 ^ j - 1) * 256 ^ k + 256 ^ k ≡ 256 ^ j * 256 ^ k = one_less (256 ^ j) (256 ^ k) least_is in
    omega (arith, whole, parts)
  where
    one_less : (x y : ℕ) → 1 ≤ x → (x - 1) * y + y ≡ x * y
    one_less x y h =
        let is : x - 1 + 1 ≡ x = omega arith in
        let parts : (x - 1 + 1) * y ≡ (x - 1) * y + 1 * y = add-mul (x - 1) 1 y in
        let same : (x - 1 + 1) * y ≡ x * y = ap (λ z. z * y) is in
        omega (arith, parts, same)

in_word : (z : ℤ) (k : ℕ) → k ≤ 16 → twice z < 256 ^ k → bytes_high_first k (cast_unsigned w128 z) ≡ two_complement z k
in_word (pos n) k few h = ap (bytes_high_first k) (sym (mod-eq_of_lt {n = n} {m = 256 ^ k} (omega arith)))
in_word (negsuc n) k few h =
    let small : n < 256 ^ k = omega arith in
    let e : k + (16 - k) ≡ 16 = omega arith in
    let remainder : unsigned_abs (int_rem_euclid (negsuc n) (pos (256 ^ k))) ≡ 256 ^ k - 1 - n = ap (λ x. 256 ^ k - 1 - x) (mod-eq_of_lt {n = n} {m = 256 ^ k} small) in
    let place : 256 ^ k ≡ 256 ^ (k + 0) = ap (λ x. 256 ^ x) (omega arith) in
    ap (bytes_high_first k) (complement n k (16 - k) small e ∙ ap (λ x. (256 ^ (16 - k) - 1) * x + (256 ^ k - 1 - n)) place)
    ∙ above k 0 (256 ^ (16 - k) - 1) (256 ^ k - 1 - n) ∙ ap (bytes_high_first k) (sym remainder)

-- the front of an array that was filled with the low bytes of a number
filled : (len x : ℕ) (front zs : List ℕ) → len ≤ 16 → front ≡ take (16 - (16 - len)) (drop (16 - len) (bytes_high_first 16 x)) → take len (front ++ zs) ≡ bytes_high_first len x
filled len x front zs few e =
    let long : length (bytes_high_first len x) ≡ len = high_length len x in
    let is : front ≡ bytes_high_first len x = e ∙ ap (take (16 - (16 - len))) (low_bytes 16 len x few) ∙ take_all (16 - (16 - len)) (bytes_high_first len x) (omega (arith, long)) in
    ap (λ l. take len (l ++ zs)) is ∙ take-append-le len (bytes_high_first len x) zs (omega (arith, long)) ∙ take_all len (bytes_high_first len x) (omega (arith, long))

choice_true : {X : Type 0} → (b : Bool) (x y : X) → b ≡ true → (if b then x else y) ≡ x
choice_true b x y e = rw e refl

choice_false : {X : Type 0} → (b : Bool) (x y : X) → b ≡ false → (if b then x else y) ≡ y
choice_false b x y e = rw e refl

natural_word : (a : ℤ) (len : ℕ) (front zs : List ℕ) → pos 0 ≤ℤ a → len ≤ 16 → len ≡ least (holds_natural (unsigned_abs a)) 16 0
    → front ≡ take (16 - (16 - len)) (drop (16 - len) (bytes_high_first 16 (cast_unsigned w128 a))) → take len (front ++ zs) ≡ natural_bytes (unsigned_abs a)
natural_word (pos n) len front zs h few e f = filled len n front zs few f ∙ ap (λ k. bytes_high_first k n) e
natural_word (negsuc n) len front zs h few e f = absurd h.le

-- the int of an int's word is that int
abbrev word : ℤ → ℤ
word z = cast_signed w128 (cast_unsigned w128 z)

front_of_word : (a : ℤ) (len : ℕ) → FitsSigned w128 a
    → take (16 - (16 - len)) (drop (16 - len) (bytes_high_first 16 (cast_unsigned w128 (word a)))) ≡ take (16 - (16 - len)) (drop (16 - len) (bytes_high_first 16 (cast_unsigned w128 a)))
front_of_word a len fits = ap (λ z. take (16 - (16 - len)) (drop (16 - len) (bytes_high_first 16 (cast_unsigned w128 z)))) (to_z-of_z w128 a fits)

not_signed : {X : Type 0} → (signed : Bool) → signed ≡ false → IsTrue signed ⊎ X → X
not_signed false e (inl t) = cc
not_signed false e (inr h) = h
not_signed true e h = cc

pub written_natural : (signed : Bool) (a : ℤ) (len x : ℕ) (front zs : List ℕ) → FitsSigned w128 a → IsTrue signed ⊎ pos 0 ≤ℤ a → signed ≡ false → len ≤ 16
    → x ≡ unsigned_abs (word a) → len ≡ least (holds_natural x) 16 0
    → front ≡ take (16 - (16 - len)) (drop (16 - len) (bytes_high_first 16 (cast_unsigned w128 (word a))))
    → take len (front ++ zs) ≡ (if signed then integer_bytes a else natural_bytes (unsigned_abs a))
written_natural signed a len x front zs fits h is few number e f =
    let same : x ≡ unsigned_abs a = number ∙ ap unsigned_abs (to_z-of_z w128 a fits) in
    natural_word a len front zs (not_signed signed is h) few (e ∙ ap (λ y. least (holds_natural y) 16 0) same) (f ∙ front_of_word a len fits)
    ∙ sym (choice_false signed (integer_bytes a) (natural_bytes (unsigned_abs a)) is)

pub written_integer : (signed : Bool) (a : ℤ) (len x : ℕ) (front zs : List ℕ) → FitsSigned w128 a → signed ≡ true → len ≤ 16 → x < 256 ^ len
    → x ≡ twice (word a) → len ≡ least (holds_natural x) 16 0
    → front ≡ take (16 - (16 - len)) (drop (16 - len) (bytes_high_first 16 (cast_unsigned w128 (word a))))
    → take len (front ++ zs) ≡ (if signed then integer_bytes a else natural_bytes (unsigned_abs a))
written_integer signed a len x front zs fits is few held doubled e f =
    let number : x ≡ twice a = doubled ∙ ap twice (to_z-of_z w128 a fits) in
    let within : twice a < 256 ^ len = subst (λ y. y < 256 ^ len) number held in
    filled len (cast_unsigned w128 a) front zs few (f ∙ front_of_word a len fits) ∙ in_word a len few within
    ∙ ap (two_complement a) (e ∙ ap (λ y. least (holds_natural y) 16 0) number ∙ sym (integer_length a))
    ∙ sym (choice_true signed (integer_bytes a) (natural_bytes (unsigned_abs a)) is)
