-- Decimal digits and their value.
use Rattle.std.specs.Prelude.{◌==◌}
use Rattle.std.proofs.Common.{◌≡◌, ℕ, ◌+◌, ◌-◌, ◌*◌, ◌≤◌, ◌<◌, Bool, true, false, ◌||◌, ◌&&◌, List, [], ◌∷◌, ◌++◌, length, take, drop, get_or, Some, refl, sym, ap, ◌∙◌, arith}
use Rattle.std.proofs.lemmas.List.{take-append-le, take-append-drop, take-take}
use Rattle.std.specs.Char.{is_ascii_digit, digit_value}
use Rattle.std.specs.Str.Parse.{digits_value, AllDigits, digits_value_after}
use Rattle.std.proofs.lemmas.Bool.Decides.{nat_tests}
use Rattle.std.proofs.lemmas.Int.Digits.{digits_value_more}
use Rattle.rules_text.specs.declared.text.Shape.TheVariants.{Digits}
use Rattle.rules_text.specs.text.Lexical.{begins_bytes, shape_of}
use Rattle.mich_text.proofs.tokens.ByteRuns.{IsAll, IsApart}
use Rattle.mich_text.proofs.tokens.Gaps.{is_solid}

pub digit_is : (c : ℕ) → is_ascii_digit c ≡ true → (digit_value c ≡ c - 48) × (48 ≤ c) × (c < 58)
digit_is c h = (grind (arith, nat_tests, h), grind (arith, nat_tests, h), grind (arith, nat_tests, h))

pub after_ge : (n : ℕ) (ds : List ℕ) → n ≤ digits_value_after 10 n ds
after_ge n [] = omega arith
after_ge n (c ∷ ds) = omega (arith, after_ge (n * 10 + digit_value c) ds)

pub after_append : (n : ℕ) (xs ys : List ℕ) → digits_value_after 10 n (xs ++ ys) ≡ digits_value_after 10 (digits_value_after 10 n xs) ys
after_append n [] ys = refl
after_append n (x ∷ xs) ys = after_append (n * 10 + digit_value x) xs ys

-- more digits make no smaller number
pub front_le : (ds : List ℕ) (k : ℕ) → digits_value 10 (take k ds) ≤ digits_value 10 ds
front_le ds k =
    let e : digits_value 10 ds ≡ digits_value_after 10 (digits_value 10 (take k ds)) (drop k ds) = ap (digits_value 10)
    (sym (take-append-drop k ds)) ∙ after_append 0 (take k ds) (drop k ds) in
    omega (arith, e, after_ge (digits_value 10 (take k ds)) (drop k ds))

pub one_more : (ds : List ℕ) (i v : ℕ) → i < length ds → is_ascii_digit (get_or ds i 0) ≡ true → v ≡ digits_value 10 (take i ds)
    → v * 10 + (get_or ds i 0 - 48) ≡ digits_value 10 (take (i + 1) ds)
one_more ds i v lt h e = omega (arith, e, digits_value_more 10 ds i lt, (digit_is (get_or ds i 0) h).0)

-- more digits make no smaller number
pub value_grows : (ds es : List ℕ) → digits_value 10 ds ≤ digits_value 10 (ds ++ es)
value_grows ds es = omega (arith, after_append 0 ds es, after_ge (digits_value 10 ds) es)

pub front_of : (n m : ℕ) (xs more : List ℕ) → n ≤ m → n ≤ length xs → (es : List ℕ) × (take m (xs ++ more) ≡ take n xs ++ es)
front_of n m xs more h g =
    let all = take m (xs ++ more) in (
      drop n all,
      sym (take-append-drop n all)
          ∙ ap (λ (l : List ℕ). l ++ drop n all) (take-take n m (xs ++ more) h ∙ take-append-le n xs more g),
    )

-- ---- which bytes are digits

digit_passes : (c : ℕ) → digit_value c < 10 → is_ascii_digit c ≡ true
digit_passes c h = grind (arith, nat_tests, h)

pub digits_pass : (ds : List ℕ) → AllDigits 10 ds → IsAll is_ascii_digit ds
digits_pass [] h = tt
digits_pass (c ∷ ds) h = (digit_passes c h.0, digits_pass ds h.1)

pub digit_apart : (c : ℕ) → (c == 32 || c == 41) ≡ true → is_ascii_digit c ≡ false
digit_apart c h = grind (arith, nat_tests, h)

pub not_minus : (c : ℕ) → is_ascii_digit c ≡ true → (c == 45) ≡ false
not_minus c h = grind (arith, nat_tests, h)

not_x : (c : ℕ) → is_ascii_digit c ≡ true → (c == 120) ≡ false
not_x c h = grind (arith, nat_tests, h)

pub digit_shape : (c : ℕ) → is_ascii_digit c ≡ true → shape_of c ≡ Some Digits
digit_shape c e = rw e refl

-- a digit is no white space
pub digit_solid : (c : ℕ) → is_ascii_digit c ≡ true → is_solid c ≡ true
digit_solid c h = grind (arith, nat_tests, h)

-- ---- digits and the `0x` of bytes

apart_not_x : (c : ℕ) → (c == 32 || c == 41) ≡ true → (c == 120) ≡ false
apart_not_x c h = grind (arith, nat_tests, h)

zero_apart : (c : ℕ) → (c == 32 || c == 41) ≡ true → (c == 48) ≡ false
zero_apart c h = grind (arith, nat_tests, h)

and_false : (b : Bool) → (b && false) ≡ false
and_false true = refl
and_false false = refl

-- decimal digits aren't the beginning of bytes
pub no_bytes : (ds rest : List ℕ) → IsAll is_ascii_digit ds → IsApart rest → begins_bytes (ds ++ rest) ≡ false
no_bytes [] [] h a = refl
no_bytes [] (c ∷ []) h a = refl
no_bytes [] (c ∷ d ∷ rest) h a = rw (zero_apart c a) refl
no_bytes (c ∷ []) [] h a = refl
no_bytes (c ∷ []) (d ∷ rest) h a = rw (apart_not_x d a) (and_false (c == 48))
no_bytes (c ∷ d ∷ ds) rest h a = rw (not_x d h.1.0) (and_false (c == 48))
