-- The number that bytes spell, read byte by byte.
use Rattle.std.proofs.Common.{◌≡◌, ℕ, zero, suc, ◌+◌, ◌-◌, ◌*◌, ◌^◌, ◌<◌, ◌≤◌, List, [], ◌∷◌, length, refl, arith, sym, ap, ◌∙◌, true, false, slice_index, drop, Ok, Err}
use Rattle.std.specs.Prelude.{ℤ, pos, negsuc, ◌+ℤ◌, ◌*ℤ◌, ◌-ℤ◌, Bool, nat_le, nat_lt, if◌then◌else◌, FitsSigned}
use Rattle.std.specs.Int.{w128}
use Rattle.std.proofs.lemmas.Int.{ints}
use Rattle.std.proofs.lemmas.Bool.Decides.{nat_tests}
use Rattle.std.proofs.Math.Nat.{pow-succ', add-mul, mul_assoc}
use Rattle.std.proofs.Math.Seq.{drop-cons}
use Rattle.std.proofs.lemmas.List.{drop_all}
use Rattle.rules_data.specs.numbers.Limits.{is_int, int_or_limit, integer_limit}
use Rattle.rules_data.specs.numbers.Bytes.{natural_in, integer_in}
use Rattle.mich_num.specs.View.{sign}
use Rattle.mich_num.proofs.Checked.{int_fits, no_int_unless_fits}

-- a number with one more byte behind it, and with more bytes
abbrev pub step : ℤ → ℕ → ℤ
step z c = z *ℤ pos 256 +ℤ pos c

abbrev pub extend : ℤ → List ℕ → ℤ
extend z [] = z
extend z (c ∷ b) = extend (step z c) b

abbrev pub AreBytes : List ℕ → Type 0
AreBytes b = (i : ℕ) → slice_index b i < 256

step_pos : (n c : ℕ) → step (pos n) c ≡ pos (n * 256 + c)
step_pos n c = refl

step_neg : (n c : ℕ) → c < 256 → step (negsuc n) c ≡ negsuc (n * 256 + (255 - c))
step_neg n c h = omega (arith, ints)

-- ---- a number out of range stays out of range

grows : (n m : ℕ) → n ≤ m → is_int (pos n) ≡ false → is_int (pos m) ≡ false
grows n m h e = grind (arith, nat_tests)

falls : (n m : ℕ) → n ≤ m → is_int (negsuc n) ≡ false → is_int (negsuc m) ≡ false
falls n m h e = grind (arith, nat_tests)

stays_out : (z : ℤ) (c : ℕ) → c < 256 → is_int z ≡ false → is_int (step z c) ≡ false
stays_out (pos n) c h e = grows n (n * 256 + c) (omega arith) e
stays_out (negsuc n) c h e = ap is_int (step_neg n c h) ∙ falls n (n * 256 + (255 - c)) (omega arith) e

pub out : (b : List ℕ) (z : ℤ) → AreBytes b → is_int z ≡ false → is_int (extend z b) ≡ false
out [] z h e = e
out (c ∷ b) z h e = out b (step z c) (λ i. h (suc i)) (stays_out z c (h 0) e)

-- ---- what is read

at_place : (n c v P Q : ℕ) → Q ≡ 256 * P → (n * 256 + c) * P + v ≡ n * Q + (c * P + v)
at_place n c v P Q e =
    let parts : (n * 256 + c) * P ≡ n * 256 * P + c * P = add-mul (n * 256) c P in
    let moved : n * 256 * P ≡ n * (256 * P) = mul_assoc n 256 P in
    let same : n * Q ≡ n * (256 * P) = ap (λ x. n * x) e in
    omega (arith, parts, moved, same)

extend_pos : (b : List ℕ) (n : ℕ) → extend (pos n) b ≡ pos (n * 256 ^ length b + natural_in b)
extend_pos [] n = ap pos (omega arith)
extend_pos (c ∷ b) n =
    extend_pos b (n * 256 + c) ∙ ap pos (at_place n c (natural_in b) (256 ^ length b) (256 ^ suc (length b)) (pow-succ' 256 (length b)))

below : (b : List ℕ) → AreBytes b → natural_in b < 256 ^ length b
below [] h = omega arith
below (c ∷ b) h =
    let rest : natural_in b < 256 ^ length b = below b (λ i. h (suc i)) in
    let digit : c < 256 = h 0 in
    let power : 256 ^ suc (length b) ≡ 256 * 256 ^ length b = pow-succ' 256 (length b) in
    let split : c * 256 ^ length b + (255 - c) * 256 ^ length b ≡ 255 * 256 ^ length b =
    sym (add-mul c (255 - c) (256 ^ length b)) ∙ ap (λ x. x * 256 ^ length b) (omega arith) in
    omega (arith, rest, power, split)

at_low_place : (n c v P Q : ℕ) → Q ≡ 256 * P → c < 256 → v < P → (n * 256 + (255 - c)) * P + (P - 1 - v) ≡ n * Q + (Q - 1 - (c * P + v))
at_low_place n c v P Q e digit rest =
    let parts : (n * 256 + (255 - c)) * P ≡ n * 256 * P + (255 - c) * P = add-mul (n * 256) (255 - c) P in
    let moved : n * 256 * P ≡ n * (256 * P) = mul_assoc n 256 P in
    let same : n * Q ≡ n * (256 * P) = ap (λ x. n * x) e in
    let split : c * P + (255 - c) * P ≡ 255 * P = sym (add-mul c (255 - c) P) ∙ ap (λ x. x * P) (omega arith) in
    omega (arith, parts, moved, same, split)

extend_neg : (b : List ℕ) (n : ℕ) → AreBytes b → extend (negsuc n) b ≡ negsuc (n * 256 ^ length b + (256 ^ length b - 1 - natural_in b))
extend_neg [] n h = ap negsuc (omega arith)
extend_neg (c ∷ b) n h =
    ap (λ z. extend z b) (step_neg n c (h 0)) ∙ extend_neg b (n * 256 + (255 - c)) (λ i. h (suc i))
    ∙ ap negsuc (at_low_place n c (natural_in b) (256 ^ length b) (256 ^ suc (length b)) (pow-succ' 256 (length b)) (h 0) (below b (λ i. h (suc i))))

-- ---- the number of all bytes

abbrev pub spelt : Bool → List ℕ → ℤ
spelt signed b = if signed then integer_in b else pos (natural_in b)

from_none : (b : List ℕ) → extend (pos 0) b ≡ pos (natural_in b)
from_none b = extend_pos b 0 ∙ ap pos (omega arith)

down : (v P : ℕ) → v < P → negsuc (0 * P + (P - 1 - v)) ≡ pos v -ℤ pos P
down v P h = omega (arith, ints)

from_minus_one : (b : List ℕ) → AreBytes b → extend (negsuc 0) b ≡ pos (natural_in b) -ℤ pos (256 ^ length b)
from_minus_one b h = extend_neg b 0 h ∙ down (natural_in b) (256 ^ length b) (below b h)

begins : (c : ℕ) (b : List ℕ) (test other : Bool) → AreBytes (c ∷ b) → nat_le 128 c ≡ test → nat_lt c 128 ≡ other
    → extend (if test then negsuc 0 else pos 0) (c ∷ b) ≡ (if other then pos (natural_in (c ∷ b)) else pos (natural_in (c ∷ b)) -ℤ pos (256 ^ length (c ∷ b)))
begins c b true true h e f = absurd (grind (arith, nat_tests))
begins c b true false h e f = from_minus_one (c ∷ b) h
begins c b false true h e f = from_none (c ∷ b)
begins c b false false h e f = absurd (grind (arith, nat_tests))

pub reads : (signed : Bool) (b : List ℕ) → AreBytes b → extend (sign signed b) b ≡ spelt signed b
reads true [] h = refl
reads false [] h = refl
reads true (c ∷ b) h = begins c b (nat_le 128 c) (nat_lt c 128) h refl refl
reads false (c ∷ b) h = from_none (c ∷ b)

in_range : (z : ℤ) → is_int z ≡ true → Ok z ≡ int_or_limit z
unfolding int_or_limit
in_range z e = rw e refl

out_of_range : (z : ℤ) → is_int z ≡ false → Err integer_limit ≡ int_or_limit z
unfolding int_or_limit
out_of_range z e = rw e refl

pub all_read : (signed : Bool) (b : List ℕ) (i : ℕ) (v : ℤ) → AreBytes b → extend (sign signed b) b ≡ extend v (drop i b) → length b ≤ i → FitsSigned w128 v → Ok v ≡ int_or_limit (spelt signed b)
all_read signed b i v h e end fits =
    let all : spelt signed b ≡ v = sym (reads signed b h) ∙ e ∙ ap (extend v) (drop_all i b end) in
    in_range v (int_fits v fits) ∙ ap int_or_limit (sym all)

bytes_behind : (b : List ℕ) (i : ℕ) → AreBytes b → AreBytes (drop i b)
bytes_behind b zero h = h
bytes_behind [] (suc i) h = h
bytes_behind (c ∷ b) (suc i) h = bytes_behind b i (λ k. h (suc k))

pub read_out : (signed : Bool) (b : List ℕ) (i : ℕ) (v : ℤ) → AreBytes b → extend (sign signed b) b ≡ extend v (drop i b) → i < length b
    → (FitsSigned w128 (step v (slice_index b i)) → ⊥) → Err integer_limit ≡ int_or_limit (spelt signed b)
read_out signed b i v h e before far =
    let all : spelt signed b ≡ extend (step v (slice_index b i)) (drop (suc i) b) = sym (reads signed b h) ∙ e ∙ ap (extend v) (drop-cons b i 0 before) in
    let no : is_int (extend (step v (slice_index b i)) (drop (suc i) b)) ≡ false =
    out (drop (suc i) b) (step v (slice_index b i)) (bytes_behind b (suc i) h) (no_int_unless_fits (step v (slice_index b i)) far) in
    out_of_range (extend (step v (slice_index b i)) (drop (suc i) b)) no ∙ ap int_or_limit (sym all)
