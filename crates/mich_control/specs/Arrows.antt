-- What is read of LAMBDA, and what is made of it.
use Rattle.std.specs.Prelude.{◌≡◌, ℕ, ◌+◌, nat_le, Bool, true, false, List, [], ◌∷◌, Result, Ok, Err}
use Rattle.rules_text.specs.nodes.Limits.{type_limit}
use Rattle.rules_text.specs.nodes.Tree.{Tree, none, more, size}
use Rattle.rules_data.specs.types.Kind.{Kind, nodes, lambda}
use Rattle.rules_data.specs.types.Reading.{any_kind}
use Rattle.rules_code.specs.instructions.Arguments.{Found, found, and_then, type_argument}
use Rattle.rules_code.specs.instructions.Control.{Arrow, call_kinds}
use Rattle.rules_code.specs.typing.Typing.{Typing, ends, made, shift}
use Rattle.mich_base.specs.declared.ty.Ty.{Ty}
use Rattle.mich_base.specs.TypeView.{kind}
use Rattle.mich_overload.specs.View.{kinds}
use Rattle.mich_instr.specs.Code as c
use Rattle.mich_instr.specs.Code.{Code, Codes}
use Rattle.mich_instr.specs.Plain.{bare}
use Rattle.mich_instr.specs.View.{code, codes}
use Rattle.mich_control.specs.declared.arrows.Arrow.{Arrow as CodeArrow}
use Rattle.mich_typed.specs.declared.error.CheckError.{CheckError}
use Rattle.mich_typed.specs.declared.error.CheckError.TheVariants as error
use Rattle.mich_typed.specs.declared.made.Body.{Body}
use Rattle.mich_typed.specs.declared.made.Made.{Made}
use Rattle.mich_control.specs.Answers.{IsFault, typing}

abbrev pub arrow : Kind → Kind → Arrow
arrow a r = record { argument = a; result = r }

abbrev pub arrow_of : CodeArrow → Arrow
arrow_of x = arrow (kind x.arg) (kind x.ret)

-- the types that two nodes spell, the first of which stands behind the instruction
abbrev pub arrow_in : Tree → Tree → Found Arrow
arrow_in t u = and_then (type_argument any_kind 1 t) (λ a. and_then (type_argument any_kind (1 + size t) u) (λ r. found (arrow a r)))

-- a recursive lambda must be within the limit of types
abbrev pub is_allowed : Bool → Kind → Kind → Bool
is_allowed true a r = nat_le (nodes (lambda a r)) type_limit
is_allowed false a r = true

-- the stack that the body begins with, or a fault at this location
abbrev pub IsBegun : ℕ → Bool → Kind → Kind → Result (List Ty) CheckError → Type 0
IsBegun at recursive a r (Ok ts) = (is_allowed recursive a r ≡ true) × (kinds ts ≡ call_kinds a r recursive)
IsBegun at recursive a r (Err (error.IllTyped l)) = (is_allowed recursive a r ≡ false) × (l ≡ at)
IsBegun at recursive a r (Err error.Memory) = Unit {0}

-- the typing of LAMBDA at a location by how its body ends
abbrev pub ended : ℕ → Body → Kind → Kind → List Kind → Typing
ended at b a r S = shift at (ends (typing b.after) (r ∷ []) (made (lambda a r) S))

-- LAMBDA or LAMBDA_REC with its types as they are written, without annotations, and its body
abbrev pub lambda_code : Bool → Tree → Tree → Tree → CodeArrow → Codes → Code
lambda_code recursive t u w x ks = c.lambda recursive (kind x.arg) (kind x.ret) (more (bare t) (more (bare u) none)) w ks

-- the types as they are written, without annotations, and the body, of which this is made
abbrev pub IsLambdaMade : ℕ → Bool → Tree → Tree → Tree → Kind → Kind → List Kind → Body → Result Made CheckError → Type 0
IsLambdaMade at recursive t u w a r S b (Ok m) =
    (ended at b a r S ≡ typing m.after) × (code m.instr ≡ c.lambda recursive a r (more (bare t) (more (bare u) none)) w (codes b.code))
IsLambdaMade at recursive t u w a r S b (Err e) = IsFault (ended at b a r S) e

-- so between these types
abbrev pub IsLambdaFrom : CodeArrow → ℕ → Bool → Tree → Tree → Tree → List Kind → Body → Result Made CheckError → Type 0
IsLambdaFrom x at recursive t u w S b result = IsLambdaMade at recursive t u w (kind x.arg) (kind x.ret) S b result
