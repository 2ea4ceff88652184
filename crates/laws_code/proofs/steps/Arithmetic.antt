-- Results within their limits.
use Rattle.std.proofs.Common.{◌≡◌, ℕ, ◌-◌, ◌^◌, ◌/◌, ◌%◌, ◌≤◌, Bool, true, false, ◌&&◌, List, ◌∷◌, Some, None, refl, arith, pos}
use Rattle.std.specs.Prelude.{ℤ, negsuc, ◌*ℤ◌, ◌≤ℤ◌, unsigned_abs, ◌==◌, if◌then◌else◌, Ok, Err}
use Rattle.std.specs.Int.{int_div_euclid, int_rem_euclid}
use Rattle.std.proofs.lemmas.Int.{ints}
use Rattle.std.proofs.lemmas.Bool.{and_parts}
use Rattle.rules_data.specs.numbers.Limits.{integer_limit, mutez_overflow, shift_limit, is_int, is_mutez, int_or_limit, mutez_or_limit}
use Rattle.rules_data.specs.numbers.Integers.{division, is_shift, shifted_left, shifted_right}
use Rattle.rules_data.specs.declared.types.Simple.{Simple}
use Rattle.rules_data.specs.declared.types.Simple.TheVariants as s
use Rattle.rules_data.specs.types.Kind.{Kind}
use Rattle.rules_data.specs.types.Kind as k
use Rattle.rules_code.specs.instructions.Types as ty
use Rattle.rules_data.specs.values.Val.{Val}
use Rattle.rules_data.specs.values.Val as v
use Rattle.rules_data.specs.values.Literals.{is_nat, is_amount}
use Rattle.rules_data.specs.values.Forms.{has_simple_form}
use Rattle.rules_data.specs.values.Tickets.{Identity}
use Rattle.rules_code.specs.steps.Changes.{amount_in}
use Rattle.rules_code.specs.steps.Step.{kept, within_limit}
use Rattle.rules_code.specs.steps.Numbers.{give_number, give_amount, quotient}
use Rattle.rules_code.specs.typing.Fits.{Known, Fits, AllFit}
use Rattle.laws_code.specs.evaluation.Laws.{amount_on}
use Rattle.laws_code.proofs.steps.Steps.{quiet_none, RowStep}
use Rattle.laws_code.proofs.steps.Ranges.{nat_low, nat_high, nat_within, nat_from, quotient_small, remainder_small, amount_high, amount_from, mutez_amount}

-- a result on the rest of a stack, which has no fewer tickets
pub gives : (w : Known) (V W : List Val) (a : Kind) (A : List Kind) (x : Val) → Fits w a x → AllFit w A W →
    ((id : Identity) → amount_in id x ≡ pos 0) → ((id : Identity) → amount_on id W ≤ℤ amount_on id V) →
    RowStep w V (a ∷ A) (kept (x ∷ W))
gives w V W a A x f h n le = (
  (f, h),
  (λ id. let p : amount_on id W ≤ℤ amount_on id V = le id in let q : amount_in id x ≡ pos 0 = n id in
      omega (arith, ints)),
  quiet_none,
)

pub limited : (w : Known) (V W : List Val) (u : Simple) (A : List Kind) (z : ℤ) →
    (is_int z ≡ true → has_simple_form u (v.number z) ≡ true) → AllFit w A W →
    ((id : Identity) → amount_on id W ≤ℤ amount_on id V) →
    RowStep w V (k.simple u ∷ A) (within_limit (int_or_limit z) (give_number W))
unfolding int_or_limit
limited w V W u A z f h le = by_test (is_int z) refl
  where
    by_test : (b : Bool) → is_int z ≡ b → RowStep w V (k.simple u ∷ A)
        (within_limit (if b then Ok z else Err integer_limit) (give_number W))
    by_test true e = gives w V W (k.simple u) A (v.number z) (f e) h (λ id. refl) le
    by_test false e = tt

pub limited_amount : (w : Known) (V W : List Val) (A : List Kind) (n : ℕ) → AllFit w A W →
    ((id : Identity) → amount_on id W ≤ℤ amount_on id V) → RowStep w V (ty.mutez ∷ A)
    (within_limit (mutez_or_limit n) (give_amount W))
unfolding mutez_or_limit
limited_amount w V W A n h le = by_test (is_mutez n) refl
  where
    by_test : (b : Bool) → is_mutez n ≡ b → RowStep w V (ty.mutez ∷ A)
        (within_limit (if b then Ok n else Err mutez_overflow) (give_amount W))
    by_test true e = gives w V W ty.mutez A (v.number (pos n)) (mutez_amount n e) h (λ id. refl) le
    by_test false e = tt

-- numbers that aren't negative
pub on_natural : (P : ℤ → Type 0) (z : ℤ) → pos 0 ≤ℤ z → ((n : ℕ) → P (pos n)) → P z
on_natural P (pos n) h f = f n
on_natural P (negsuc n) h f = absurd (omega (arith, ints))

pub amount_low : (z : ℤ) → is_amount z ≡ true → pos 0 ≤ℤ z
amount_low z h = grind (arith, ints)

pub below_two : (x y : ℤ) (W : List Val) (id : Identity) → amount_on id W ≤ℤ amount_on id (v.number x ∷ v.number y ∷ W)
below_two x y W id = omega (arith, ints)

pub below_one : (x : ℤ) (W : List Val) (id : Identity) → amount_on id W ≤ℤ amount_on id (v.number x ∷ W)
below_one x W id = omega (arith, ints)

-- ---- division

pub divides : (w : Known) (u z q r : Simple) (A : List Kind) (x y : ℤ) (W : List Val) → has_simple_form u (v.number x) ≡ true →
    has_simple_form z (v.number y) ≡ true → AllFit w A W →
    (is_int (int_div_euclid x y) ≡ true → has_simple_form q (v.number (int_div_euclid x y)) ≡ true) →
    (is_int (int_rem_euclid x y) ≡ true → has_simple_form r (v.number (int_rem_euclid x y)) ≡ true) →
    RowStep w (v.number x ∷ v.number y ∷ W) (k.option (k.pair (k.simple q) (k.simple r)) ∷ A)
    (within_limit (division x y) (λ p. kept (quotient p ∷ W)))
unfolding division
divides w u z q r A x y W hx hy h f g = by_zero (unsigned_abs y == 0)
  where
    by_int : (b : Bool) → (is_int (int_div_euclid x y) && is_int (int_rem_euclid x y)) ≡ b →
        RowStep w (v.number x ∷ v.number y ∷ W) (k.option (k.pair (k.simple q) (k.simple r)) ∷ A)
        (within_limit (if b then Ok (Some (int_div_euclid x y, int_rem_euclid x y)) else Err integer_limit)
        (λ p. kept (quotient p ∷ W)))
    by_int true e =
        let es : (is_int (int_div_euclid x y) ≡ true) × (is_int (int_rem_euclid x y) ≡ true) = and_parts
        (is_int (int_div_euclid x y)) (is_int (int_rem_euclid x y)) e in
        gives w (v.number x ∷ v.number y ∷ W) W (k.option (k.pair (k.simple q) (k.simple r))) A
        (v.some (v.both (v.number (int_div_euclid x y)) (v.number (int_rem_euclid x y)))) (f es.0, g es.1) h (λ id. refl)
        (below_two x y W)
    by_int false e = tt

    by_zero : (b : Bool) → RowStep w (v.number x ∷ v.number y ∷ W) (k.option (k.pair (k.simple q) (k.simple r)) ∷ A)
        (within_limit
        (if b then Ok None else (if is_int (int_div_euclid x y) && is_int (int_rem_euclid x y) then Ok
        (Some (int_div_euclid x y, int_rem_euclid x y)) else Err integer_limit)) (λ p. kept (quotient p ∷ W)))
    by_zero true = gives w (v.number x ∷ v.number y ∷ W) W (k.option (k.pair (k.simple q) (k.simple r))) A v.nothing tt h
        (λ id. refl) (below_two x y W)
    by_zero false = by_int (is_int (int_div_euclid x y) && is_int (int_rem_euclid x y)) refl

pub amount_quotient : (x y : ℤ) → is_amount x ≡ true → pos 0 ≤ℤ y → is_amount (int_div_euclid x y) ≡ true
amount_quotient (pos m) (pos n) h g = let l : m ≤ 2 ^ 63 - 1 = amount_high m h in let q : m / n ≤ m = quotient_small m n in
    amount_from (m / n) (omega arith)
amount_quotient (pos m) (negsuc n) h g = absurd (omega (arith, ints))
amount_quotient (negsuc m) y h g = let l = amount_low (negsuc m) h in absurd (omega (arith, ints))

pub amount_remainder : (x y : ℤ) → is_amount x ≡ true → is_amount (int_rem_euclid x y) ≡ true
amount_remainder (pos m) y h = let l : m ≤ 2 ^ 63 - 1 = amount_high m h in
    let q : m % unsigned_abs y ≤ m = remainder_small m (unsigned_abs y) in amount_from (m % unsigned_abs y) (omega arith)
amount_remainder (negsuc m) y h = let l = amount_low (negsuc m) h in absurd (omega (arith, ints))

pub amount_ratio : (x y : ℤ) → is_amount x ≡ true → is_amount y ≡ true → is_nat (int_div_euclid x y) ≡ true
amount_ratio (pos m) (pos n) h g = let l : m ≤ 2 ^ 63 - 1 = amount_high m h in let q : m / n ≤ m = quotient_small m n in
    nat_from (pos (m / n)) (omega (arith, ints)) (omega (arith, ints))
amount_ratio (pos m) (negsuc n) h g = let l = amount_low (negsuc n) g in absurd (omega (arith, ints))
amount_ratio (negsuc m) y h g = let l = amount_low (negsuc m) h in absurd (omega (arith, ints))

-- ---- shifts

pub shift_left : (w : Known) (A : List Kind) (x y : ℤ) (W : List Val) → is_nat x ≡ true → AllFit w A W →
    RowStep w (v.number x ∷ v.number y ∷ W) (ty.nat ∷ A) (within_limit (shifted_left x y) (give_number W))
unfolding shifted_left
shift_left w A x y W hx h = by_test (is_shift y)
  where
    scaled : (z : ℤ) (n : ℕ) → pos 0 ≤ℤ z → pos 0 ≤ℤ (z *ℤ pos n)
    scaled (pos m) n l = omega (arith, ints)
    scaled (negsuc m) n l = absurd (omega (arith, ints))

    by_test : (b : Bool) → RowStep w (v.number x ∷ v.number y ∷ W) (ty.nat ∷ A)
        (within_limit (if b then int_or_limit (x *ℤ pos (2 ^ unsigned_abs y)) else Err shift_limit) (give_number W))
    by_test true = limited w (v.number x ∷ v.number y ∷ W) W s.Nat A (x *ℤ pos (2 ^ unsigned_abs y))
        (λ e. nat_within (x *ℤ pos (2 ^ unsigned_abs y)) (scaled x (2 ^ unsigned_abs y) (nat_low x hx)) e) h (below_two x y W)
    by_test false = tt

pub shift_right : (w : Known) (A : List Kind) (x y : ℤ) (W : List Val) → is_nat x ≡ true → AllFit w A W →
    RowStep w (v.number x ∷ v.number y ∷ W) (ty.nat ∷ A) (within_limit (shifted_right x y) (give_number W))
unfolding shifted_right
shift_right w A x y W hx h = by_test (is_shift y)
  where
    halved : (z : ℤ) (n : ℕ) → is_nat z ≡ true → is_nat (int_div_euclid z (pos n)) ≡ true
    halved (pos m) n l = let q : m / n ≤ m = quotient_small m n in let r = nat_high (pos m) l in
        nat_from (pos (m / n)) (omega (arith, ints)) (omega (arith, ints))
    halved (negsuc m) n l = let q = nat_low (negsuc m) l in absurd (omega (arith, ints))

    by_test : (b : Bool) → RowStep w (v.number x ∷ v.number y ∷ W) (ty.nat ∷ A)
        (within_limit (if b then Ok (int_div_euclid x (pos (2 ^ unsigned_abs y))) else Err shift_limit) (give_number W))
    by_test true = gives w (v.number x ∷ v.number y ∷ W) W ty.nat A (v.number (int_div_euclid x (pos (2 ^ unsigned_abs y))))
        (halved x (2 ^ unsigned_abs y) hx) h (λ id. refl) (below_two x y W)
    by_test false = tt
