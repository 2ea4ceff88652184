-- Arithmetic, truth values and bits, and comparison.
use Rattle.std.proofs.Common.{◌≡◌, ℕ, ◌+◌, ◌-◌, ◌*◌, ◌^◌, ◌≤◌, nat_le, Bool, true, false, ◌&&◌, ◌||◌, not, List, [], ◌∷◌, Some, None, refl, sym, subst, arith, pos}
use Rattle.std.specs.Prelude.{ℤ, ◌+ℤ◌, ◌-ℤ◌, ◌*ℤ◌, ◌≤ℤ◌, int_le, int_lt, neg_ℤ, unsigned_abs, option_map, if◌then◌else◌}
use Rattle.std.specs.declared.cmp.Ordering.{Ordering}
use Rattle.std.specs.declared.cmp.Ordering.TheVariants.{Less, Equal, Greater}
use Rattle.std.specs.Ordering.{int_eq}
use Rattle.std.specs.Int.{int_div_euclid, int_rem_euclid}
use Rattle.std.proofs.lemmas.Int.{ints}
use Rattle.rules_data.specs.numbers.Limits.{is_int, int_or_limit}
use Rattle.rules_data.specs.numbers.Mutez.{mutez_difference}
use Rattle.rules_data.specs.numbers.Bytes.{natural_bytes, integer_bytes, natural_in, integer_in}
use Rattle.rules_data.specs.numbers.Bits.{bitwise_and, bitwise_or, bitwise_xor, complement}
use Rattle.rules_data.specs.declared.types.Simple.{Simple}
use Rattle.rules_data.specs.declared.types.Simple.TheVariants as s
use Rattle.rules_data.specs.types.Kind.{Kind}
use Rattle.rules_data.specs.types.Kind as k
use Rattle.rules_data.specs.types.Attributes.{comparable}
use Rattle.rules_code.specs.instructions.Types as ty
use Rattle.rules_code.specs.instructions.Same.{same_kind}
use Rattle.rules_code.specs.instructions.Change.{makes, where_true}
use Rattle.rules_code.specs.instructions.NumberChanges.{number_change, logic_change, of_bools, of_nats, against_zero}
use Rattle.rules_code.specs.instructions.Straight.{NumberRow, LogicRow}
use Rattle.rules_code.specs.instructions.Straight as i
use Rattle.rules_data.specs.values.Val.{Val}
use Rattle.rules_data.specs.values.Val as v
use Rattle.rules_data.specs.values.Order.{order}
use Rattle.rules_data.specs.values.Literals.{is_nat, is_amount}
use Rattle.rules_data.specs.values.Forms.{has_simple_form}
use Rattle.rules_code.specs.steps.Changes.{amount_in}
use Rattle.rules_code.specs.steps.Step.{Step, kept, optional, within_limit}
use Rattle.rules_code.specs.steps.Numbers.{give_number, natural, number_step, comparison, logic_step}
use Rattle.rules_code.specs.typing.Fits.{Known, AllFit}
use Rattle.laws_code.proofs.stacks.ForCallers.{positive}
use Rattle.laws_code.proofs.steps.Steps.{IsNumeric, RowStep, StepFits, on_one_number, on_two_numbers, on_truth, on_bytes}
use Rattle.laws_code.proofs.steps.NumberBytes.{natural_short, integer_short}
use Rattle.laws_code.proofs.steps.TextRows.{bytes_below}
use Rattle.laws_code.proofs.steps.Ranges.{nat_low, nat_within, nat_sum, nat_product, nat_int, int_from, complement_int, quotient_nat, remainder_low, and_nat, or_nat, xor_nat, amount_high, amount_from}
use Rattle.laws_code.proofs.steps.Arithmetic.{gives, limited, limited_amount, on_natural, amount_low, below_two, below_one, divides, amount_quotient, amount_remainder, amount_ratio, shift_left, shift_right}

-- ---- all

module _ (w : Known) where
  two : (u z q : Simple) (A : List Kind) (V : List Val) (f : ℤ → ℤ → ℤ) (go : List Val → Step) → IsNumeric u → IsNumeric z →
      AllFit w (k.simple u ∷ k.simple z ∷ A) V →
      ((x y : ℤ) → has_simple_form u (v.number x) ≡ true → has_simple_form z (v.number y) ≡ true → is_int (f x y) ≡ true →
      has_simple_form q (v.number (f x y)) ≡ true) →
      ((x y : ℤ) (W : List Val) → go (v.number x ∷ v.number y ∷ W) ≡ within_limit (int_or_limit (f x y)) (give_number W)) →
      RowStep w V (k.simple q ∷ A) (go V)
  two u z q A V f go nu nz h g same =
      on_two_numbers w (λ V. RowStep w V (k.simple q ∷ A) (go V)) u z A V nu nz h (λ x y W hx hy hw.
      subst (λ st. RowStep w (v.number x ∷ v.number y ∷ W) (k.simple q ∷ A) st) (sym (same x y W))
      (limited w (v.number x ∷ v.number y ∷ W) W q A (f x y) (g x y hx hy) hw (below_two x y W)))

  one : (u : Simple) (b : Kind) (A : List Kind) (V : List Val) (go : List Val → Step) → IsNumeric u →
      AllFit w (k.simple u ∷ A) V →
      ((x : ℤ) (W : List Val) → has_simple_form u (v.number x) ≡ true → AllFit w A W →
      RowStep w (v.number x ∷ W) (b ∷ A) (go (v.number x ∷ W))) → RowStep w V (b ∷ A) (go V)
  one u b A V go nu h g = on_one_number w (λ V. RowStep w V (b ∷ A) (go V)) u A V nu h g

  both : (u z : Simple) (b : Kind) (A : List Kind) (V : List Val) (go : List Val → Step) → IsNumeric u → IsNumeric z →
      AllFit w (k.simple u ∷ k.simple z ∷ A) V →
      ((x y : ℤ) (W : List Val) → has_simple_form u (v.number x) ≡ true → has_simple_form z (v.number y) ≡ true →
      AllFit w A W → RowStep w (v.number x ∷ v.number y ∷ W) (b ∷ A) (go (v.number x ∷ v.number y ∷ W))) →
      RowStep w V (b ∷ A) (go V)
  both u z b A V go nu nz h g = on_two_numbers w (λ V. RowStep w V (b ∷ A) (go V)) u z A V nu nz h g

  -- amounts as natural numbers
  amounts : (b : Kind) (A : List Kind) (V : List Val) (go : List Val → Step) → AllFit w (ty.mutez ∷ ty.mutez ∷ A) V →
      ((m n : ℕ) (W : List Val) → is_amount (pos m) ≡ true → AllFit w A W →
      RowStep w (v.number (pos m) ∷ v.number (pos n) ∷ W) (b ∷ A) (go (v.number (pos m) ∷ v.number (pos n) ∷ W))) →
      RowStep w V (b ∷ A) (go V)
  amounts b A V go h g =
      both s.Mutez s.Mutez b A V go tt tt h (λ x y W hx hy hw.
      on_natural (λ x. is_amount x ≡ true → RowStep w (v.number x ∷ v.number y ∷ W) (b ∷ A) (go (v.number x ∷ v.number y ∷ W)))
      x (amount_low x hx)
      (λ m hm. on_natural (λ y. RowStep w (v.number (pos m) ∷ v.number y ∷ W) (b ∷ A) (go (v.number (pos m) ∷ v.number y ∷ W)))
      y (amount_low y hy) (λ n. g m n W hm hw)) hx)

  subtracts : (A : List Kind) (m n : ℕ) (W : List Val) → is_amount (pos m) ≡ true → AllFit w A W →
      RowStep w (v.number (pos m) ∷ v.number (pos n) ∷ W) (k.option ty.mutez ∷ A)
      (kept (optional (option_map (λ n. v.number (pos n)) (mutez_difference m n)) ∷ W))
  subtracts A m n W hm h = by_test (nat_le n m)
    where
      by_test : (b : Bool) → RowStep w (v.number (pos m) ∷ v.number (pos n) ∷ W) (k.option ty.mutez ∷ A)
          (kept (optional (option_map (λ n. v.number (pos n)) (if b then Some (m - n) else None)) ∷ W))
      by_test true =
          let l : m ≤ 2 ^ 63 - 1 = amount_high m hm in
          gives w (v.number (pos m) ∷ v.number (pos n) ∷ W) W (k.option ty.mutez) A (v.some (v.number (pos (m - n))))
          (amount_from (m - n) (omega arith)) h (λ id. refl) (below_two (pos m) (pos n) W)
      by_test false = gives w (v.number (pos m) ∷ v.number (pos n) ∷ W) W (k.option ty.mutez) A v.nothing tt h (λ id. refl)
          (below_two (pos m) (pos n) W)

  scales : (u z : Simple) (A : List Kind) (V : List Val) → IsNumeric u → IsNumeric z →
      ((x : ℤ) → has_simple_form u (v.number x) ≡ true → pos 0 ≤ℤ x) →
      ((x : ℤ) → has_simple_form z (v.number x) ≡ true → pos 0 ≤ℤ x) →
      AllFit w (k.simple u ∷ k.simple z ∷ A) V → RowStep w V (ty.mutez ∷ A) (number_step i.mul_amounts V)
  scales u z A V nu nz lu lz h =
      both u z ty.mutez A V (number_step i.mul_amounts) nu nz h (λ x y W hx hy hw.
      on_natural (λ x. RowStep w (v.number x ∷ v.number y ∷ W) (ty.mutez ∷ A)
      (number_step i.mul_amounts (v.number x ∷ v.number y ∷ W))) x (lu x hx)
      (λ m. on_natural (λ y. RowStep w (v.number (pos m) ∷ v.number y ∷ W) (ty.mutez ∷ A)
      (number_step i.mul_amounts (v.number (pos m) ∷ v.number y ∷ W))) y (lz y hy)
      (λ n. limited_amount w (v.number (pos m) ∷ v.number (pos n) ∷ W) W A (m * n) hw (below_two (pos m) (pos n) W))))

  naturals : (A : List Kind) (x : ℤ) (W : List Val) → is_int x ≡ true → AllFit w A W →
      RowStep w (v.number x ∷ W) (k.option ty.nat ∷ A) (kept (natural x ∷ W))
  naturals A x W hx h = by_test (int_le (pos 0) x) refl
    where
      by_test : (b : Bool) → int_le (pos 0) x ≡ b → RowStep w (v.number x ∷ W) (k.option ty.nat ∷ A)
          (kept ((if b then v.some (v.number x) else v.nothing) ∷ W))
      by_test true e = let l : pos 0 ≤ℤ x = grind (arith, ints) in
          gives w (v.number x ∷ W) W (k.option ty.nat) A (v.some (v.number x)) (nat_within x l hx) h (λ id. refl)
          (below_one x W)
      by_test false e = gives w (v.number x ∷ W) W (k.option ty.nat) A v.nothing tt h (λ id. refl) (below_one x W)

  pub number_keeps : (r : NumberRow) (A : List Kind) (V : List Val) → AllFit w A V →
      StepFits w V (number_change r A) (number_step r V)
  number_keeps i.add_numbers (ty.nat ∷ ty.nat ∷ A) V h = two s.Nat s.Nat s.Nat A V (λ x y. x +ℤ y)
      (number_step i.add_numbers) tt tt h (λ x y hx hy e. nat_within (x +ℤ y) (nat_sum x y hx hy) e) (λ x y W. refl)
  number_keeps i.add_numbers (ty.nat ∷ ty.int ∷ A) V h = two s.Nat s.Int s.Int A V (λ x y. x +ℤ y)
      (number_step i.add_numbers) tt tt h (λ x y hx hy e. e) (λ x y W. refl)
  number_keeps i.add_numbers (ty.int ∷ ty.nat ∷ A) V h = two s.Int s.Nat s.Int A V (λ x y. x +ℤ y)
      (number_step i.add_numbers) tt tt h (λ x y hx hy e. e) (λ x y W. refl)
  number_keeps i.add_numbers (ty.int ∷ ty.int ∷ A) V h = two s.Int s.Int s.Int A V (λ x y. x +ℤ y)
      (number_step i.add_numbers) tt tt h (λ x y hx hy e. e) (λ x y W. refl)
  number_keeps i.add_numbers (ty.timestamp ∷ ty.int ∷ A) V h = two s.Timestamp s.Int s.Timestamp A V (λ x y. x +ℤ y)
      (number_step i.add_numbers) tt tt h (λ x y hx hy e. e) (λ x y W. refl)
  number_keeps i.add_numbers (ty.int ∷ ty.timestamp ∷ A) V h = two s.Int s.Timestamp s.Timestamp A V (λ x y. x +ℤ y)
      (number_step i.add_numbers) tt tt h (λ x y hx hy e. e) (λ x y W. refl)
  number_keeps i.add_amounts (ty.mutez ∷ ty.mutez ∷ A) V h =
      amounts ty.mutez A V (number_step i.add_amounts) h (λ m n W hm hw. limited_amount w
      (v.number (pos m) ∷ v.number (pos n) ∷ W) W A (m + n) hw (below_two (pos m) (pos n) W))
  number_keeps i.sub (ty.nat ∷ ty.nat ∷ A) V h = two s.Nat s.Nat s.Int A V (λ x y. x -ℤ y) (number_step i.sub) tt tt h
      (λ x y hx hy e. e) (λ x y W. refl)
  number_keeps i.sub (ty.nat ∷ ty.int ∷ A) V h = two s.Nat s.Int s.Int A V (λ x y. x -ℤ y) (number_step i.sub) tt tt h
      (λ x y hx hy e. e) (λ x y W. refl)
  number_keeps i.sub (ty.int ∷ ty.nat ∷ A) V h = two s.Int s.Nat s.Int A V (λ x y. x -ℤ y) (number_step i.sub) tt tt h
      (λ x y hx hy e. e) (λ x y W. refl)
  number_keeps i.sub (ty.int ∷ ty.int ∷ A) V h = two s.Int s.Int s.Int A V (λ x y. x -ℤ y) (number_step i.sub) tt tt h
      (λ x y hx hy e. e) (λ x y W. refl)
  number_keeps i.sub (ty.timestamp ∷ ty.int ∷ A) V h = two s.Timestamp s.Int s.Timestamp A V (λ x y. x -ℤ y)
      (number_step i.sub) tt tt h (λ x y hx hy e. e) (λ x y W. refl)
  number_keeps i.sub (ty.timestamp ∷ ty.timestamp ∷ A) V h = two s.Timestamp s.Timestamp s.Int A V (λ x y. x -ℤ y)
      (number_step i.sub) tt tt h (λ x y hx hy e. e) (λ x y W. refl)
  number_keeps i.sub_mutez (ty.mutez ∷ ty.mutez ∷ A) V h = amounts (k.option ty.mutez) A V (number_step i.sub_mutez) h
      (λ m n W hm hw. subtracts A m n W hm hw)
  number_keeps i.mul_numbers (ty.nat ∷ ty.nat ∷ A) V h = two s.Nat s.Nat s.Nat A V (λ x y. x *ℤ y)
      (number_step i.mul_numbers) tt tt h (λ x y hx hy e. nat_within (x *ℤ y) (nat_product x y hx hy) e) (λ x y W. refl)
  number_keeps i.mul_numbers (ty.nat ∷ ty.int ∷ A) V h = two s.Nat s.Int s.Int A V (λ x y. x *ℤ y)
      (number_step i.mul_numbers) tt tt h (λ x y hx hy e. e) (λ x y W. refl)
  number_keeps i.mul_numbers (ty.int ∷ ty.nat ∷ A) V h = two s.Int s.Nat s.Int A V (λ x y. x *ℤ y)
      (number_step i.mul_numbers) tt tt h (λ x y hx hy e. e) (λ x y W. refl)
  number_keeps i.mul_numbers (ty.int ∷ ty.int ∷ A) V h = two s.Int s.Int s.Int A V (λ x y. x *ℤ y)
      (number_step i.mul_numbers) tt tt h (λ x y hx hy e. e) (λ x y W. refl)
  number_keeps i.mul_amounts (ty.mutez ∷ ty.nat ∷ A) V h = scales s.Mutez s.Nat A V tt tt amount_low nat_low h
  number_keeps i.mul_amounts (ty.nat ∷ ty.mutez ∷ A) V h = scales s.Nat s.Mutez A V tt tt nat_low amount_low h
  number_keeps i.ediv (ty.nat ∷ ty.nat ∷ A) V h = both s.Nat s.Nat (k.option (k.pair ty.nat ty.nat)) A V
      (number_step i.ediv) tt tt h
      (λ x y W hx hy hw. divides w s.Nat s.Nat s.Nat s.Nat A x y W hx hy hw
      (λ e. nat_within (int_div_euclid x y) (quotient_nat x y hx hy) e)
      (λ e. nat_within (int_rem_euclid x y) (remainder_low x y) e))
  number_keeps i.ediv (ty.nat ∷ ty.int ∷ A) V h = both s.Nat s.Int (k.option (k.pair ty.int ty.nat)) A V
      (number_step i.ediv) tt tt h
      (λ x y W hx hy hw. divides w s.Nat s.Int s.Int s.Nat A x y W hx hy hw (λ e. e)
      (λ e. nat_within (int_rem_euclid x y) (remainder_low x y) e))
  number_keeps i.ediv (ty.int ∷ ty.nat ∷ A) V h = both s.Int s.Nat (k.option (k.pair ty.int ty.nat)) A V
      (number_step i.ediv) tt tt h
      (λ x y W hx hy hw. divides w s.Int s.Nat s.Int s.Nat A x y W hx hy hw (λ e. e)
      (λ e. nat_within (int_rem_euclid x y) (remainder_low x y) e))
  number_keeps i.ediv (ty.int ∷ ty.int ∷ A) V h = both s.Int s.Int (k.option (k.pair ty.int ty.nat)) A V
      (number_step i.ediv) tt tt h
      (λ x y W hx hy hw. divides w s.Int s.Int s.Int s.Nat A x y W hx hy hw (λ e. e)
      (λ e. nat_within (int_rem_euclid x y) (remainder_low x y) e))
  number_keeps i.ediv (ty.mutez ∷ ty.nat ∷ A) V h = both s.Mutez s.Nat (k.option (k.pair ty.mutez ty.mutez)) A V
      (number_step i.ediv) tt tt h
      (λ x y W hx hy hw. divides w s.Mutez s.Nat s.Mutez s.Mutez A x y W hx hy hw (λ e. amount_quotient x y hx (nat_low y hy))
      (λ e. amount_remainder x y hx))
  number_keeps i.ediv (ty.mutez ∷ ty.mutez ∷ A) V h = both s.Mutez s.Mutez (k.option (k.pair ty.nat ty.mutez)) A V
      (number_step i.ediv) tt tt h
      (λ x y W hx hy hw. divides w s.Mutez s.Mutez s.Nat s.Mutez A x y W hx hy hw (λ e. amount_ratio x y hx hy)
      (λ e. amount_remainder x y hx))
  number_keeps i.abs (ty.int ∷ A) V h = one s.Int ty.nat A V (number_step i.abs) tt h
      (λ x W hx hw. limited w (v.number x ∷ W) W s.Nat A (pos (unsigned_abs x))
      (λ e. nat_within (pos (unsigned_abs x)) (omega (arith, ints)) e) hw (below_one x W))
  number_keeps i.neg (ty.nat ∷ A) V h = one s.Nat ty.int A V (number_step i.neg) tt h
      (λ x W hx hw. limited w (v.number x ∷ W) W s.Int A (neg_ℤ x) (λ e. e) hw (below_one x W))
  number_keeps i.neg (ty.int ∷ A) V h = one s.Int ty.int A V (number_step i.neg) tt h
      (λ x W hx hw. limited w (v.number x ∷ W) W s.Int A (neg_ℤ x) (λ e. e) hw (below_one x W))
  number_keeps i.int (ty.nat ∷ A) V h = one s.Nat ty.int A V (number_step i.int) tt h
      (λ x W hx hw. gives w (v.number x ∷ W) W ty.int A (v.number x) (nat_int x hx) hw (λ id. refl) (below_one x W))
  number_keeps i.isnat (ty.int ∷ A) V h = one s.Int (k.option ty.nat) A V (number_step i.isnat) tt h
      (λ x W hx hw. naturals A x W hx hw)
  number_keeps i.lsl (ty.nat ∷ ty.nat ∷ A) V h = both s.Nat s.Nat ty.nat A V (number_step i.lsl) tt tt h
      (λ x y W hx hy hw. shift_left w A x y W hx hw)
  number_keeps i.lsr (ty.nat ∷ ty.nat ∷ A) V h = both s.Nat s.Nat ty.nat A V (number_step i.lsr) tt tt h
      (λ x y W hx hy hw. shift_right w A x y W hx hw)
  number_keeps i.nat_to_bytes (ty.nat ∷ A) V h = one s.Nat ty.bytes A V (number_step i.nat_to_bytes) tt h
      (λ x W hx hw. on_natural (λ x. RowStep w (v.number x ∷ W) (ty.bytes ∷ A) (number_step i.nat_to_bytes (v.number x ∷ W))) x
      (nat_low x hx) (λ n. gives w (v.number (pos n) ∷ W) W ty.bytes A (v.bytes (natural_bytes n)) (natural_short n) hw
      (λ id. refl) (below_one (pos n) W)))
  number_keeps i.int_to_bytes (ty.int ∷ A) V h = one s.Int ty.bytes A V (number_step i.int_to_bytes) tt h
      (λ x W hx hw. gives w (v.number x ∷ W) W ty.bytes A (v.bytes (integer_bytes x)) (integer_short x) hw (λ id. refl)
      (below_one x W))
  number_keeps i.bytes_to_nat (ty.bytes ∷ A) V h = on_bytes w (λ V. RowStep w V (ty.nat ∷ A) (number_step i.bytes_to_nat V))
      s.Bytes A V tt h (λ b W hb hw. limited w (v.bytes b ∷ W) W s.Nat A (pos (natural_in b))
      (λ e. nat_within (pos (natural_in b)) (omega (arith, ints)) e) hw (bytes_below w b W))
  number_keeps i.bytes_to_int (ty.bytes ∷ A) V h = on_bytes w (λ V. RowStep w V (ty.int ∷ A) (number_step i.bytes_to_int V))
      s.Bytes A V tt h (λ b W hb hw. limited w (v.bytes b ∷ W) W s.Int A (integer_in b) (λ e. e) hw (bytes_below w b W))
  number_keeps i.add_numbers (a ∷ b ∷ A) V h = tt
  number_keeps i.add_numbers (a ∷ []) V h = tt
  number_keeps i.add_numbers [] V h = tt
  number_keeps i.sub (a ∷ b ∷ A) V h = tt
  number_keeps i.sub (a ∷ []) V h = tt
  number_keeps i.sub [] V h = tt
  number_keeps i.mul_numbers (a ∷ b ∷ A) V h = tt
  number_keeps i.mul_numbers (a ∷ []) V h = tt
  number_keeps i.mul_numbers [] V h = tt
  number_keeps i.mul_amounts (a ∷ b ∷ A) V h = tt
  number_keeps i.mul_amounts (a ∷ []) V h = tt
  number_keeps i.mul_amounts [] V h = tt
  number_keeps i.ediv (a ∷ b ∷ A) V h = tt
  number_keeps i.ediv (a ∷ []) V h = tt
  number_keeps i.ediv [] V h = tt
  number_keeps _ _ V h = tt

  -- ---- truth values, bits and comparison

  truths : (A : List Kind) (V : List Val) (go : List Val → Step) → AllFit w (ty.bool ∷ ty.bool ∷ A) V →
      ((b c : Bool) (W : List Val) → AllFit w A W → RowStep w (v.truth b ∷ v.truth c ∷ W) (ty.bool ∷ A)
      (go (v.truth b ∷ v.truth c ∷ W))) → RowStep w V (ty.bool ∷ A) (go V)
  truths A V go h g = on_truth w (λ V. RowStep w V (ty.bool ∷ A) (go V)) (ty.bool ∷ A) V h
      (λ b W hw. on_truth w (λ X. RowStep w (v.truth b ∷ X) (ty.bool ∷ A) (go (v.truth b ∷ X))) A W hw (λ c X hx. g b c X hx))

  compared : (o : Ordering) → is_int (comparison o) ≡ true
  compared Less = int_from (comparison Less) (omega (arith, ints)) (omega (arith, ints))
  compared Equal = int_from (comparison Equal) (omega (arith, ints)) (omega (arith, ints))
  compared Greater = int_from (comparison Greater) (omega (arith, ints)) (omega (arith, ints))

  compares : (a b : Kind) (A : List Kind) (x y : Val) (V : List Val) → AllFit w (a ∷ b ∷ A) (x ∷ y ∷ V) → (q : Bool) →
      StepFits w (x ∷ y ∷ V) (where_true q (makes ty.int A)) (logic_step i.compare (x ∷ y ∷ V))
  compares a b A x y V h true =
      gives w (x ∷ y ∷ V) V ty.int A (v.number (comparison (order x y))) (compared (order x y)) h.1.1 (λ id. refl)
      (λ id. let p : pos 0 ≤ℤ amount_in id x = positive id w a x h.0 in
      let q : pos 0 ≤ℤ amount_in id y = positive id w b y h.1.0 in omega (arith, ints))
  compares a b A x y V h false = tt

  zeros : (r : LogicRow) (f : ℤ → Bool) → ((x : ℤ) (W : List Val) → logic_step r (v.number x ∷ W) ≡ kept (v.truth (f x) ∷ W)) →
      (A : List Kind) (V : List Val) → AllFit w A V → StepFits w V (against_zero A) (logic_step r V)
  zeros r f same (ty.int ∷ A) V h = one s.Int ty.bool A V (logic_step r) tt h
      (λ x W hx hw. subst (λ st. RowStep w (v.number x ∷ W) (ty.bool ∷ A) st) (sym (same x W))
      (gives w (v.number x ∷ W) W ty.bool A (v.truth (f x)) refl hw (λ id. refl) (below_one x W)))
  zeros r f same _ V h = tt

  bools : (r : LogicRow) (f : Bool → Bool → Bool) → ((b c : Bool) (W : List Val) →
      logic_step r (v.truth b ∷ v.truth c ∷ W) ≡ kept (v.truth (f b c) ∷ W)) → (A : List Kind) (V : List Val) → AllFit w A V →
      StepFits w V (of_bools A) (logic_step r V)
  bools r f same (ty.bool ∷ ty.bool ∷ A) V h =
      truths A V (logic_step r) h (λ b c W hw. subst (λ st. RowStep w (v.truth b ∷ v.truth c ∷ W) (ty.bool ∷ A) st)
      (sym (same b c W)) (gives w (v.truth b ∷ v.truth c ∷ W) W ty.bool A (v.truth (f b c)) refl hw (λ id. refl)
      (λ id. omega (arith, ints))))
  bools r f same _ V h = tt

  nats : (r : LogicRow) (f : ℤ → ℤ → ℤ) → ((x y : ℤ) → is_nat x ≡ true → is_nat y ≡ true → is_nat (f x y) ≡ true) →
      ((x y : ℤ) (W : List Val) → logic_step r (v.number x ∷ v.number y ∷ W) ≡ kept (v.number (f x y) ∷ W)) →
      (A : List Kind) (V : List Val) → AllFit w A V → StepFits w V (of_nats A) (logic_step r V)
  nats r f g same (ty.nat ∷ ty.nat ∷ A) V h =
      both s.Nat s.Nat ty.nat A V (logic_step r) tt tt h (λ x y W hx hy hw. subst
      (λ st. RowStep w (v.number x ∷ v.number y ∷ W) (ty.nat ∷ A) st) (sym (same x y W))
      (gives w (v.number x ∷ v.number y ∷ W) W ty.nat A (v.number (f x y)) (g x y hx hy) hw (λ id. refl) (below_two x y W)))
  nats r f g same _ V h = tt

  pub logic_keeps : (r : LogicRow) (A : List Kind) (V : List Val) → AllFit w A V →
      StepFits w V (logic_change r A) (logic_step r V)
  logic_keeps i.and_bools A V h = bools i.and_bools (λ b c. b && c) (λ b c W. refl) A V h
  logic_keeps i.or_bools A V h = bools i.or_bools (λ b c. b || c) (λ b c W. refl) A V h
  logic_keeps i.xor_bools A V h = bools i.xor_bools (λ b c. if b then not c else c) (λ b c W. refl) A V h
  logic_keeps i.not_bool (ty.bool ∷ A) V h =
      on_truth w (λ V. RowStep w V (ty.bool ∷ A) (logic_step i.not_bool V)) A V h
      (λ b W hw. gives w (v.truth b ∷ W) W ty.bool A (v.truth (not b)) refl hw (λ id. refl) (λ id. omega (arith, ints)))
  logic_keeps i.and_numbers (ty.nat ∷ ty.nat ∷ A) V h = both s.Nat s.Nat ty.nat A V (logic_step i.and_numbers) tt tt h
      (λ x y W hx hy hw. gives w (v.number x ∷ v.number y ∷ W) W ty.nat A (v.number (bitwise_and x y)) (and_nat x y hy) hw
      (λ id. refl) (below_two x y W))
  logic_keeps i.and_numbers (ty.int ∷ ty.nat ∷ A) V h = both s.Int s.Nat ty.nat A V (logic_step i.and_numbers) tt tt h
      (λ x y W hx hy hw. gives w (v.number x ∷ v.number y ∷ W) W ty.nat A (v.number (bitwise_and x y)) (and_nat x y hy) hw
      (λ id. refl) (below_two x y W))
  logic_keeps i.or_numbers A V h = nats i.or_numbers bitwise_or or_nat (λ x y W. refl) A V h
  logic_keeps i.xor_numbers A V h = nats i.xor_numbers bitwise_xor xor_nat (λ x y W. refl) A V h
  logic_keeps i.not_number (ty.nat ∷ A) V h = one s.Nat ty.int A V (logic_step i.not_number) tt h
      (λ x W hx hw. gives w (v.number x ∷ W) W ty.int A (v.number (complement x)) (complement_int x (nat_int x hx)) hw
      (λ id. refl) (below_one x W))
  logic_keeps i.not_number (ty.int ∷ A) V h = one s.Int ty.int A V (logic_step i.not_number) tt h
      (λ x W hx hw. gives w (v.number x ∷ W) W ty.int A (v.number (complement x)) (complement_int x hx) hw (λ id. refl)
      (below_one x W))
  logic_keeps i.compare (a ∷ b ∷ A) (x ∷ y ∷ V) h = compares a b A x y V h (same_kind a b && comparable a)
  logic_keeps i.compare (a ∷ b ∷ A) (x ∷ []) h = absurd h.1
  logic_keeps i.compare (a ∷ b ∷ A) [] h = absurd h
  logic_keeps i.eq A V h = zeros i.eq (λ x. int_eq x (pos 0)) (λ x W. refl) A V h
  logic_keeps i.neq A V h = zeros i.neq (λ x. not (int_eq x (pos 0))) (λ x W. refl) A V h
  logic_keeps i.lt A V h = zeros i.lt (λ x. int_lt x (pos 0)) (λ x W. refl) A V h
  logic_keeps i.gt A V h = zeros i.gt (λ x. int_lt (pos 0) x) (λ x W. refl) A V h
  logic_keeps i.le A V h = zeros i.le (λ x. int_le x (pos 0)) (λ x W. refl) A V h
  logic_keeps i.ge A V h = zeros i.ge (λ x. int_le (pos 0) x) (λ x W. refl) A V h
  logic_keeps i.and_numbers (a ∷ b ∷ A) V h = tt
  logic_keeps i.and_numbers (a ∷ []) V h = tt
  logic_keeps i.and_numbers [] V h = tt
  logic_keeps _ _ V h = tt
