-- What the answers of the calls say.
use Rattle.std.specs.Prelude.{◌≡◌, ℕ, Bool, true, List, [], ◌∷◌, Option, Some, None, Result, Ok, Err}
use Rattle.rules_text.specs.nodes.Tree.{Tree, seq, Trees}
use Rattle.rules_data.specs.types.Kind.{Kind}
use Rattle.rules_code.specs.instructions.Arguments.{Found, found, fault}
use Rattle.rules_code.specs.instructions.Same.{same_kinds}
use Rattle.rules_code.specs.instructions.Context.{Context, lambda}
use Rattle.rules_code.specs.instructions.Control.{call_kinds}
use Rattle.rules_code.specs.typing.Literals.{lambda_fault}
use Rattle.mich_instr.specs.declared.instr.Instr.{Instr}
use Rattle.rules_code.specs.typing.Typing.{Typing, goes, fails, bad, shift}
use Rattle.rules_code.specs.typing.Nodes.{tree_type}
use Rattle.mich_base.specs.declared.ty.Ty.{Ty}
use Rattle.mich_overload.specs.View.{kinds}
use Rattle.mich_instr.specs.View.{code, codes}
pub use Rattle.mich_instr.specs.Body.{inside}
use Rattle.mich_instr.specs.Typed.{IsCode, AreCode}
use Rattle.mich_typed.specs.declared.error.CheckError.{CheckError}
use Rattle.mich_typed.specs.declared.error.CheckError.TheVariants as error
use Rattle.mich_typed.specs.declared.made.Made.{Made}
use Rattle.mich_typed.specs.declared.made.Body.{Body}

-- to the stack after it, or that it fails
abbrev pub typing : Option (List Ty) → Typing
typing (Some ts) = goes (kinds ts)
typing None = fails

-- so of the stack after it; of any stack where it fails
abbrev pub Leads : (List Kind → Type 0) → Option (List Ty) → Type 0
Leads P (Some ts) = P (kinds ts)
Leads P None = (B : List Kind) → P B

-- whether a body ends with these types, or fails
abbrev pub ends_in : Option (List Ty) → List Kind → Bool
ends_in (Some ts) C = same_kinds (kinds ts) C
ends_in None C = true

abbrev pub IsFault : Typing → CheckError → Type 0
IsFault T (error.IllTyped l) = T ≡ bad l
IsFault T error.Memory = Unit {0}

-- a typing gives this stack, and doesn't fail
abbrev pub IsStack : Typing → Result (List Ty) CheckError → Type 0
IsStack T (Ok ts) = T ≡ goes (kinds ts)
IsStack T (Err e) = IsFault T e

-- what is read of arguments gives this answer, which stands for it
abbrev pub IsFound : {A T : Type 0} → (T → A) → Found A → Result T CheckError → Type 0
IsFound view f (Ok x) = f ≡ found (view x)
IsFound view f (Err (error.IllTyped l)) = f ≡ fault l
IsFound view f (Err error.Memory) = Unit {0}

-- a typing gives the stack after it
abbrev pub IsAfter : Typing → Result (Option (List Ty)) CheckError → Type 0
IsAfter T (Ok after) = T ≡ typing after
IsAfter T (Err e) = IsFault T e

-- the typing of a node gives this instruction, which is its typed code
abbrev pub IsInstr : Context → Tree → List Kind → Typing → Result Made CheckError → Type 0
IsInstr c t A T (Ok m) = (T ≡ typing m.after) × Leads (λ B. IsCode c t (code m.instr) A B) m.after
IsInstr c t A T (Err e) = IsFault T e

-- so the typing of a node at a location
abbrev pub IsInstrAt : ℕ → Context → Tree → List Kind → Result Made CheckError → Type 0
IsInstrAt at c t A r = IsInstr c t A (shift at (tree_type t c A)) r

-- the typing of a block gives this code
abbrev pub IsBlock : Context → Trees → List Kind → Typing → Result Body CheckError → Type 0
IsBlock c ts A T (Ok b) = (T ≡ typing b.after) × Leads (λ B. AreCode c ts (codes b.code) A B) b.after
IsBlock c ts A T (Err e) = IsFault T e

-- the typing of a node as a body gives this code
abbrev pub IsBody : Context → Tree → List Kind → Typing → Result Body CheckError → Type 0
IsBody c t A T (Ok b) = (t ≡ seq (inside t)) × (T ≡ typing b.after) × Leads (λ B. AreCode c (inside t) (codes b.code) A B) b.after
IsBody c t A T (Err e) = IsFault T e

-- a node as the body of a lambda of these types gives this code
abbrev pub IsLambda : Kind → Kind → Bool → Tree → Result (List Instr) CheckError → Type 0
IsLambda a r recursive t (Ok is) = (lambda_fault a r recursive t ≡ None) × AreCode lambda (inside t) (codes is) (call_kinds a r recursive) (r ∷ [])
IsLambda a r recursive t (Err (error.IllTyped l)) = lambda_fault a r recursive t ≡ Some l
IsLambda a r recursive t (Err error.Memory) = Unit {0}
