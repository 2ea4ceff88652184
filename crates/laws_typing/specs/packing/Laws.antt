-- What can be packed (Michelson reference, "PACK"; Octez "data encoding", the primitives).
use Rattle.std.specs.Prelude.{◌≡◌, ◌<◌, ◌^◌, ℕ, Bool, true, List, None}
use Rattle.rules_text.specs.nodes.Tree.{Tree, size}
use Rattle.rules_data.specs.types.Kind.{Kind}
use Rattle.rules_data.specs.types.Attributes.{packable}
use Rattle.rules_data.specs.values.Val.{Val}
use Rattle.rules_data.specs.values.Literals.{Pending, good, read}
use Rattle.rules_code.specs.instructions.Context.{Context}
use Rattle.rules_code.specs.typing.Typing.{Typing, goes, fails, bad}
use Rattle.rules_code.specs.typing.Nodes.{tree_type}
use Rattle.rules_code.specs.typing.Literals.{fault_of_bodies}
use Rattle.rules_code.specs.typing.Fits.{Fits}
use Rattle.laws_typing.specs.literals.Laws.{told_by}
use Rattle.laws_typing.specs.packing.Names.{HasCodes, IsPackable}

-- it has no fault
abbrev pub IsTyped : Typing → Type 0
IsTyped (goes B) = Unit {0}
IsTyped fails = Unit {0}
IsTyped (bad l) = ⊥

-- each name in code that is typed is a primitive's
abbrev pub TypedCodeHasCodes : Type 0
TypedCodeHasCodes = (t : Tree) (c : Context) (A : List Kind) → IsTyped (tree_type t c A) → HasCodes t

-- a value that fits a packable type can be packed
abbrev pub FittingIsPackable : Type 0
FittingIsPackable = (is_contract : List ℕ → Kind → Bool) (is_issued : ℕ → Bool) (a : Kind) (x : Val) →
    packable a ≡ true → Fits (told_by is_contract is_issued) a x → IsPackable x

-- and so can the value of a literal of such a type, whose bodies have no fault
abbrev pub LiteralIsPackable : Type 0
LiteralIsPackable = (a : Kind) (at : ℕ) (t : Tree) (x : Val) (ps : List Pending) →
    packable a ≡ true → read a at t ≡ good x ps → fault_of_bodies ps ≡ None → size t < 2 ^ 32 → IsPackable x
