-- Arithmetic, numbers as bytes, bits, truth values and comparison (Michelson reference, "Operations on integers and natural numbers",
-- "Operations on Mutez", "Operations on timestamps", "Operations on booleans" and "Generic comparison").
use Rattle.std.specs.Prelude.{ℕ, ℤ, pos, neg_ℤ, ◌+ℤ◌, ◌-ℤ◌, ◌*ℤ◌, int_le, int_lt, unsigned_abs, not, ◌&&◌, ◌||◌, List, ◌∷◌, Option, Some, None, option_map, if◌then◌else◌}
use Rattle.std.specs.declared.cmp.Ordering.{Ordering}
use Rattle.std.specs.Ordering.{match_ordering, int_eq}
use Rattle.rules_data.specs.numbers.Limits.{int_or_limit}
use Rattle.rules_data.specs.numbers.Integers.{division, shifted_left, shifted_right}
use Rattle.rules_data.specs.numbers.Bytes.{natural_bytes, integer_bytes, natural_in, integer_in}
use Rattle.rules_data.specs.numbers.Mutez.{mutez_sum, mutez_difference, mutez_product}
use Rattle.rules_data.specs.numbers.Bits.{bitwise_and, bitwise_or, bitwise_xor, complement}
use Rattle.rules_data.specs.values.Val.{Val, truth, number, bytes, nothing, some, both}
use Rattle.rules_data.specs.values.Order.{order}
use Rattle.rules_code.specs.instructions.Straight.{NumberRow, LogicRow}
use Rattle.rules_code.specs.instructions.Straight as i
use Rattle.rules_code.specs.steps.Step.{Step, wrong, kept, optional, within_limit}

-- a number, or an amount of mutez, on the others
abbrev pub give_number : List Val → ℤ → Step
give_number V z = kept (number z ∷ V)

abbrev pub give_amount : List Val → ℕ → Step
give_amount V n = kept (number (pos n) ∷ V)

-- the quotient and the remainder, as an optional pair
abbrev pub quotient : Option (ℤ × ℤ) → Val
quotient None = nothing
quotient (Some p) = some (both (number p.0) (number p.1))

-- a number that isn't negative
abbrev pub natural : ℤ → Val
natural x = if int_le (pos 0) x then some (number x) else nothing

abbrev pub number_step : NumberRow → List Val → Step
number_step i.add_numbers (number x ∷ number y ∷ V) = within_limit (int_or_limit (x +ℤ y)) (give_number V)
number_step i.add_amounts (number (pos x) ∷ number (pos y) ∷ V) = within_limit (mutez_sum x y) (give_amount V)
number_step i.sub (number x ∷ number y ∷ V) = within_limit (int_or_limit (x -ℤ y)) (give_number V)
number_step i.sub_mutez (number (pos x) ∷ number (pos y) ∷ V) =
    kept (optional (option_map (λ n. number (pos n)) (mutez_difference x y)) ∷ V)
number_step i.mul_numbers (number x ∷ number y ∷ V) = within_limit (int_or_limit (x *ℤ y)) (give_number V)
number_step i.mul_amounts (number (pos x) ∷ number (pos y) ∷ V) = within_limit (mutez_product x y) (give_amount V)
number_step i.ediv (number x ∷ number y ∷ V) = within_limit (division x y) (λ q. kept (quotient q ∷ V))
number_step i.abs (number x ∷ V) = within_limit (int_or_limit (pos (unsigned_abs x))) (give_number V)
number_step i.neg (number x ∷ V) = within_limit (int_or_limit (neg_ℤ x)) (give_number V)
number_step i.int (number x ∷ V) = kept (number x ∷ V)
number_step i.isnat (number x ∷ V) = kept (natural x ∷ V)
number_step i.lsl (number x ∷ number places ∷ V) = within_limit (shifted_left x places) (give_number V)
number_step i.lsr (number x ∷ number places ∷ V) = within_limit (shifted_right x places) (give_number V)
number_step i.nat_to_bytes (number (pos n) ∷ V) = kept (bytes (natural_bytes n) ∷ V)
number_step i.int_to_bytes (number x ∷ V) = kept (bytes (integer_bytes x) ∷ V)
number_step i.bytes_to_nat (bytes b ∷ V) = within_limit (int_or_limit (pos (natural_in b))) (give_number V)
number_step i.bytes_to_int (bytes b ∷ V) = within_limit (int_or_limit (integer_in b)) (give_number V)
number_step _ _ = wrong

-- -1, 0 or 1
abbrev pub comparison : Ordering → ℤ
comparison o = match_ordering o (neg_ℤ (pos 1)) (pos 0) (pos 1)

abbrev pub logic_step : LogicRow → List Val → Step
logic_step i.and_bools (truth b ∷ truth c ∷ V) = kept (truth (b && c) ∷ V)
logic_step i.or_bools (truth b ∷ truth c ∷ V) = kept (truth (b || c) ∷ V)
logic_step i.xor_bools (truth b ∷ truth c ∷ V) = kept (truth (if b then not c else c) ∷ V)
logic_step i.not_bool (truth b ∷ V) = kept (truth (not b) ∷ V)
logic_step i.and_numbers (number x ∷ number y ∷ V) = kept (number (bitwise_and x y) ∷ V)
logic_step i.or_numbers (number x ∷ number y ∷ V) = kept (number (bitwise_or x y) ∷ V)
logic_step i.xor_numbers (number x ∷ number y ∷ V) = kept (number (bitwise_xor x y) ∷ V)
logic_step i.not_number (number x ∷ V) = kept (number (complement x) ∷ V)
logic_step i.compare (v ∷ w ∷ V) = kept (number (comparison (order v w)) ∷ V)
logic_step i.eq (number x ∷ V) = kept (truth (int_eq x (pos 0)) ∷ V)
logic_step i.neq (number x ∷ V) = kept (truth (not (int_eq x (pos 0))) ∷ V)
logic_step i.lt (number x ∷ V) = kept (truth (int_lt x (pos 0)) ∷ V)
logic_step i.gt (number x ∷ V) = kept (truth (int_lt (pos 0) x) ∷ V)
logic_step i.le (number x ∷ V) = kept (truth (int_le x (pos 0)) ∷ V)
logic_step i.ge (number x ∷ V) = kept (truth (int_le (pos 0) x) ∷ V)
logic_step _ _ = wrong
