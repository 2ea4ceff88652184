-- What typing says of an instruction or block, and how the typings of bodies are put together (Michelson reference,
-- "Typing"). Locations are counted in pre-order from the node that is typed, which is 0.
use Rattle.std.specs.Prelude.{ℕ, ◌+◌, nat_le, if◌then◌else◌, List, ◌∷◌, ◌++◌, Option, Some, None}
use Rattle.rules_text.specs.nodes.Limits.{type_limit}
use Rattle.rules_text.specs.nodes.Tree.{Trees, none, more}
use Rattle.rules_data.specs.types.Kind.{Kind, nodes}
use Rattle.rules_code.specs.instructions.Same.{same_kinds}
use Rattle.rules_code.specs.instructions.Context.{Context}
use Rattle.rules_code.specs.instructions.Arguments.{Found, found, fault}

-- the types after it, or that it fails, or the location of its first fault
pub data Typing : Type 0 where
  goes : List Kind → Typing
  fails : Typing
  bad : ℕ → Typing

-- how a node is typed where it stands, on a stack of types
abbrev pub Typer : Type 0
Typer = Context → List Kind → Typing

-- the same of a node at a location
abbrev pub shift : ℕ → Typing → Typing
shift k (goes B) = goes B
shift k fails = fails
shift k (bad l) = bad (k + l)

-- goes on with what was read of the arguments
abbrev pub on_found : {A : Type 0} → Found A → (A → Typing) → Typing
on_found (found x) next = next x
on_found (fault l) next = bad l

-- a new type on the stack, which must be within the limit
abbrev pub made : Kind → List Kind → Typing
made a A = if nat_le (nodes a) type_limit then goes (a ∷ A) else bad 0

-- an instruction with what stands behind it in its block: one that fails is the last
abbrev pub in_block : Typing → Trees → (List Kind → Typing) → Typing
in_block (goes B) ts next = next B
in_block fails none next = fails
in_block fails (more t ts) next = bad 0
in_block (bad l) ts next = bad l

-- two branches: they end alike, or one of them fails
abbrev pub join : Typing → Typing → Typing
join (bad l) u = bad l
join (goes B) (goes C) = if same_kinds B C then goes B else bad 0
join (goes B) fails = goes B
join (goes B) (bad l) = bad l
join fails u = u

-- a body that ends with these types, or fails, and then what its instruction gives
abbrev pub ends : Typing → List Kind → Typing → Typing
ends (goes B) C t = if same_kinds B C then t else bad 0
ends fails C t = t
ends (bad l) C t = bad l

-- a body that must not fail, below types that it doesn't see
abbrev pub under : List Kind → Typing → Typing
under A (goes B) = goes (A ++ B)
under A fails = bad 0
under A (bad l) = bad l

-- the type of what a body leaves on a stack, where it leaves one value on that stack
abbrev pub part_kind : Typing → List Kind → Option Kind
part_kind (goes (a ∷ B)) A = if same_kinds B A then Some a else None
part_kind t A = None

abbrev pub made_of : (Kind → Kind) → Option Kind → List Kind → Typing
made_of f None A = bad 0
made_of f (Some a) A = made (f a) A

-- a body that must not fail, each run of which gives a part of what is made
abbrev pub mapped : Typing → (Kind → Kind) → List Kind → Typing
mapped (bad l) f A = bad l
mapped t f A = made_of f (part_kind t A) A
