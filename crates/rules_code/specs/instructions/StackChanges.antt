-- The effect on types: the order of the stack, pairs and combs (Michelson reference, "Instructions").
use Rattle.std.specs.Prelude.{ℕ, zero, suc, ◌-◌, nat_le, List, [], ◌∷◌, length, drop, insert, remove, slice_get, Option, Some, None, option_map, option_and_then}
use Rattle.rules_data.specs.types.Kind.{Kind, pair}
use Rattle.rules_data.specs.types.Attributes.{duplicable}
use Rattle.rules_code.specs.instructions.Types.{unit}
use Rattle.rules_code.specs.instructions.Same.{same_kind}
use Rattle.rules_code.specs.instructions.Change.{Change, makes, keeps, where_true}
use Rattle.rules_code.specs.instructions.Straight.{StackRow, PairRow}
use Rattle.rules_code.specs.instructions.Straight as i

-- ---- the order of the stack

abbrev pub stack_change : StackRow → List Kind → Option Change
stack_change (i.drop n) A = where_true (nat_le n (length A)) (keeps (drop n A))
stack_change (i.dup n) A = option_and_then (λ a. where_true (duplicable a) (makes a A)) (slice_get A (n - 1))
stack_change i.swap (a ∷ b ∷ A) = keeps (b ∷ a ∷ A)
stack_change (i.dig n) A = option_and_then (λ a. keeps (a ∷ remove A n)) (slice_get A n)
stack_change (i.dug n) (a ∷ A) = where_true (nat_le n (length A)) (keeps (insert A n a))
stack_change i.unit A = makes unit A
stack_change (i.cast t) (a ∷ A) = where_true (same_kind a t) (keeps (a ∷ A))
stack_change i.rename (a ∷ A) = keeps (a ∷ A)
stack_change r A = None

-- ---- pairs and combs

-- the comb of a type and the next n
abbrev pub comb : ℕ → Kind → List Kind → Option Kind
comb zero a A = Some a
comb (suc n) a (b ∷ A) = option_map (pair a) (comb n b A)
comb (suc n) a [] = None

-- the first n parts of a comb, and the rest of it
abbrev pub parts : ℕ → Kind → Option (List Kind)
parts zero a = Some (a ∷ [])
parts (suc n) (pair a b) = option_map (λ ps. a ∷ ps) (parts n b)
parts n a = None

-- the part of a comb with a number: 2 k is what k CDRs leave, 2 k + 1 the CAR of it
abbrev pub part : ℕ → Kind → Option Kind
part zero a = Some a
part (suc zero) (pair a b) = Some a
part (suc (suc n)) (pair a b) = part n b
part n a = None

-- the comb with another type as that part
abbrev pub with_part : ℕ → Kind → Kind → Option Kind
with_part zero x a = Some x
with_part (suc zero) x (pair a b) = Some (pair x b)
with_part (suc (suc n)) x (pair a b) = option_map (pair a) (with_part n x b)
with_part n x a = None

abbrev pub pair_change : PairRow → List Kind → Option Change
pair_change (i.pair n) (a ∷ A) = option_and_then (λ c. makes c (drop (n - 1) A)) (comb (n - 1) a A)
pair_change (i.unpair n) (a ∷ A) = option_map (λ ps. record { made = ps; kept = A }) (parts (n - 1) a)
pair_change i.car (pair a b ∷ A) = makes a A
pair_change i.cdr (pair a b ∷ A) = makes b A
pair_change (i.get_part n) (a ∷ A) = option_and_then (λ c. makes c A) (part n a)
pair_change (i.update_part n) (x ∷ a ∷ A) = option_and_then (λ c. makes c A) (with_part n x a)
pair_change r A = None
