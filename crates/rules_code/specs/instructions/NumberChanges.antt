-- The effect on types: arithmetic, logic and comparison (Michelson reference, "Instructions").
use Rattle.std.specs.Prelude.{◌&&◌, List, ◌∷◌, Option, Some, None, option_map, option_and_then}
use Rattle.rules_data.specs.types.Kind.{Kind, option, pair}
use Rattle.rules_data.specs.types.Attributes.{comparable}
use Rattle.rules_code.specs.instructions.Types.{bool, int, nat, bytes, mutez, timestamp}
use Rattle.rules_code.specs.instructions.Same.{same_kind}
use Rattle.rules_code.specs.instructions.Change.{Change, makes, where_true}
use Rattle.rules_code.specs.instructions.Straight.{NumberRow, LogicRow}
use Rattle.rules_code.specs.instructions.Straight as i

-- ---- arithmetic

-- two operands with a result, one operand with a result
abbrev pub of_two : (Kind → Kind → Option Kind) → List Kind → Option Change
of_two f (a ∷ b ∷ A) = option_and_then (λ c. makes c A) (f a b)
of_two f A = None

abbrev pub of_one : (Kind → Option Kind) → List Kind → Option Change
of_one f (a ∷ A) = option_and_then (λ c. makes c A) (f a)
of_one f A = None

abbrev pub sum : Kind → Kind → Option Kind
sum nat nat = Some nat
sum nat int = Some int
sum int nat = Some int
sum int int = Some int
sum timestamp int = Some timestamp
sum int timestamp = Some timestamp
sum a b = None

abbrev pub difference : Kind → Kind → Option Kind
difference nat nat = Some int
difference nat int = Some int
difference int nat = Some int
difference int int = Some int
difference timestamp int = Some timestamp
difference timestamp timestamp = Some int
difference a b = None

abbrev pub product : Kind → Kind → Option Kind
product nat nat = Some nat
product nat int = Some int
product int nat = Some int
product int int = Some int
product a b = None

abbrev pub scaled : Kind → Kind → Option Kind
scaled mutez nat = Some mutez
scaled nat mutez = Some mutez
scaled a b = None

-- the quotient with the remainder
abbrev pub quotient : Kind → Kind → Option Kind
quotient nat nat = Some (pair nat nat)
quotient nat int = Some (pair int nat)
quotient int nat = Some (pair int nat)
quotient int int = Some (pair int nat)
quotient mutez nat = Some (pair mutez mutez)
quotient mutez mutez = Some (pair nat mutez)
quotient a b = None

-- a number to an int
abbrev pub signed : Kind → Option Kind
signed nat = Some int
signed int = Some int
signed a = None

abbrev pub number_change : NumberRow → List Kind → Option Change
number_change i.add_numbers A = of_two sum A
number_change i.add_amounts (mutez ∷ mutez ∷ A) = makes mutez A
number_change i.sub A = of_two difference A
number_change i.sub_mutez (mutez ∷ mutez ∷ A) = makes (option mutez) A
number_change i.mul_numbers A = of_two product A
number_change i.mul_amounts A = of_two scaled A
number_change i.ediv A = of_two (λ a b. option_map option (quotient a b)) A
number_change i.abs (int ∷ A) = makes nat A
number_change i.neg A = of_one signed A
number_change i.int (nat ∷ A) = makes int A
number_change i.isnat (int ∷ A) = makes (option nat) A
number_change i.lsl (nat ∷ nat ∷ A) = makes nat A
number_change i.lsr (nat ∷ nat ∷ A) = makes nat A
number_change i.nat_to_bytes (nat ∷ A) = makes bytes A
number_change i.int_to_bytes (int ∷ A) = makes bytes A
number_change i.bytes_to_nat (bytes ∷ A) = makes nat A
number_change i.bytes_to_int (bytes ∷ A) = makes int A
number_change r A = None

-- ---- truth values and bits, comparison

abbrev pub conjunction : Kind → Kind → Option Kind
conjunction nat nat = Some nat
conjunction int nat = Some nat
conjunction a b = None

abbrev pub of_bools : List Kind → Option Change
of_bools (bool ∷ bool ∷ A) = makes bool A
of_bools A = None

abbrev pub of_nats : List Kind → Option Change
of_nats (nat ∷ nat ∷ A) = makes nat A
of_nats A = None

-- an int against 0
abbrev pub against_zero : List Kind → Option Change
against_zero (int ∷ A) = makes bool A
against_zero A = None

abbrev pub logic_change : LogicRow → List Kind → Option Change
logic_change i.and_bools A = of_bools A
logic_change i.or_bools A = of_bools A
logic_change i.xor_bools A = of_bools A
logic_change i.not_bool (bool ∷ A) = makes bool A
logic_change i.and_numbers A = of_two conjunction A
logic_change i.or_numbers A = of_nats A
logic_change i.xor_numbers A = of_nats A
logic_change i.not_number A = of_one signed A
logic_change i.compare (a ∷ b ∷ A) = where_true (same_kind a b && comparable a) (makes int A)
logic_change i.eq A = against_zero A
logic_change i.neq A = against_zero A
logic_change i.lt A = against_zero A
logic_change i.gt A = against_zero A
logic_change i.le A = against_zero A
logic_change i.ge A = against_zero A
logic_change r A = None
