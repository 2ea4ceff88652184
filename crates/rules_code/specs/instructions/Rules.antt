-- The rule that an instruction without bodies takes on a stack of types, and the stack after it; or the first fault. A
-- name, the number of its arguments and its annotation come first; then its types, counts and names from left to right;
-- then that the stack doesn't fit, and that a type that is made is too large (Octez documentation, "Michelson", typing).
use Rattle.std.specs.Prelude.{ℕ, ◌==◌, if◌then◌else◌, List, [], ◌∷◌, length, Option, Some, None, option_and_then}
use Rattle.rules_text.specs.nodes.Tree.{Trees}
use Rattle.rules_text.specs.declared.nodes.Primitive.{Primitive}
use Rattle.rules_data.specs.types.Kind.{Kind}
use Rattle.rules_code.specs.instructions.Straight.{Straight, on_collections}
use Rattle.rules_code.specs.instructions.Straight as i
use Rattle.rules_code.specs.instructions.Change.{Change, after, is_within_limit}
use Rattle.rules_code.specs.instructions.Effect.{change, effect}
use Rattle.rules_code.specs.instructions.Arguments.{Found, found, fault}
use Rattle.rules_code.specs.instructions.Instructions.{Instruction, choose, instruction}

-- a rule with the stack after it, or the location of the first fault
pub data Ruled : Type 0 where
  ruled : Straight → List Kind → Ruled
  faulty : ℕ → Ruled

abbrev pub with_change : Straight → Option Change → Ruled
with_change r None = faulty 0
with_change r (Some c) = if is_within_limit c then ruled r (after c) else faulty 0

abbrev pub with_row : Option Straight → List Kind → Ruled
with_row None A = faulty 0
with_row (Some r) A = with_change r (change r A)

abbrev pub with_instruction : Found Instruction → List Kind → Ruled
with_instruction (found w) A = with_row (choose w A) A
with_instruction (fault l) A = faulty l

-- the rule of a name with its annotations and arguments
abbrev pub rule : Option Primitive → List (List ℕ) → Trees → List Kind → Ruled
rule name annots ts A = with_instruction (instruction name annots ts) A

-- ---- overloads alone

-- a rule with the type of its first result
pub record Row : Type 0 where
  pub rule : Straight
  pub result : Kind

-- how many results stand below the first
abbrev pub further_results : Straight → ℕ
further_results (on_collections i.get_and_update_map) = 1
further_results (on_collections i.get_and_update_big_map) = 1
further_results r = 0

abbrev pub of_results : Straight → List Kind → Option Row
of_results r [] = None
of_results r (a ∷ A) = if length A == further_results r then Some record { rule = r; result = a } else None

-- the rule that fits operands of exactly these types, if there is one; the limit of types is not asked
abbrev pub row_of : Instruction → List Kind → Option Row
row_of w A = option_and_then (λ r. option_and_then (of_results r) (effect r A)) (choose w A)
