-- What is said of scripts, of their bodies and of CREATE_CONTRACT.
use Rattle.std.specs.Prelude.{ℕ, ◌≡◌, max, Bool, true, false, ◌&&◌, List, [], ◌∷◌, Option, Some, None, Result, Ok, Err}
use Rattle.rules_text.specs.nodes.Tree.{Tree, seq, size}
use Rattle.rules_data.specs.types.Kind.{Kind, operation, option, pair, list}
use Rattle.rules_code.specs.instructions.Types.{address, mutez, key_hash}
use Rattle.rules_code.specs.instructions.Arguments.{Found, found, fault}
use Rattle.rules_code.specs.instructions.Context.{Context}
use Rattle.rules_code.specs.instructions.Context as standing
use Rattle.rules_code.specs.instructions.Same.{same_kind}
use Rattle.rules_code.specs.typing.Bodies.{body_fault}
use Rattle.rules_code.specs.typing.Nodes.{script_at}
use Rattle.rules_code.specs.typing.Sections.{Body}
use Rattle.rules_code.specs.typing.Scripts.{Outline, TypedView, View, is_small, code_fault, view_fault, with_views}
use Rattle.mich_base.specs.declared.ty.Ty.{Ty}
use Rattle.mich_base.specs.TypeView.{kind}
use Rattle.mich_base.specs.View.{tree}
use Rattle.mich_outline.specs.declared.outline.View.{View as Item}
use Rattle.mich_overload.specs.View.{kinds}
use Rattle.mich_instr.specs.Code.{Codes, ScriptCode, ViewCode}
use Rattle.mich_instr.specs.Code as made
use Rattle.mich_instr.specs.View.{codes, script_node, view_code, view_codes}
use Rattle.mich_instr.specs.Typed.{AreCode, AreViews}
use Rattle.mich_instr.specs.Scripts.{IsTypedScript}
use Rattle.mich_instr.specs.declared.instr.Instr.{Instr}
use Rattle.mich_instr.specs.declared.instr.Script.{Script}
use Rattle.mich_instr.specs.declared.instr.ViewCode.{ViewCode as CodeOfView}
use Rattle.mich_typed.specs.declared.error.CheckError.{CheckError}
use Rattle.mich_typed.specs.declared.error.CheckError.TheVariants as error
use Rattle.mich_check.specs.declared.ends.Ends.{Ends}
use Rattle.mich_check.specs.declared.creating.Origin.{Origin as CodeOrigin}
use Rattle.mich_control.specs.Answers.{inside}

-- ---- bodies of scripts

-- the types that a body goes from and to, which are small; else the fault is here
abbrev pub AreEnds : Bool → Kind → Kind → ℕ → Result Ends CheckError → Type 0
AreEnds small a r at (Ok e) = (small ≡ true) × (kind e.begins ≡ a) × (kind e.ends ≡ r)
AreEnds small a r at (Err (error.IllTyped l)) = (small ≡ false) × (l ≡ at)
AreEnds small a r at (Err error.Memory) = Unit {0}

-- whether the types of a script's code are within the limit
abbrev pub code_is_small : Kind → Kind → Bool
code_is_small p s = is_small (pair p s) && is_small (pair (list operation) s)

-- what the code of a script begins and ends with; or a fault at this location
abbrev pub AreCodeEnds : Kind → Kind → ℕ → Result Ends CheckError → Type 0
AreCodeEnds p s at result = AreEnds (code_is_small p s) (pair p s) (pair (list operation) s) at result

-- a body without this fault has this code, from one type to another; else this is its fault
abbrev pub IsBodyOf : Option ℕ → Context → Tree → Kind → Kind → Result (List Instr) CheckError → Type 0
IsBodyOf f c t a r (Ok is) = (f ≡ None) × (t ≡ seq (inside t)) × AreCode c (inside t) (codes is) (a ∷ []) (r ∷ [])
IsBodyOf f c t a r (Err (error.IllTyped l)) = f ≡ Some l
IsBodyOf f c t a r (Err error.Memory) = Unit {0}

-- the body where it stands
abbrev pub IsWhole : Context → Body → Kind → Kind → Result (List Instr) CheckError → Type 0
IsWhole c b a r x = IsBodyOf (body_fault b.location (b.typing c (a ∷ [])) r) c b.node a r x

-- the code of a script
abbrev pub IsScriptCode : Outline → Result (List Instr) CheckError → Type 0
IsScriptCode o x = IsBodyOf (code_fault o) (standing.main o.entries) o.code.node (pair o.parameter o.storage) (pair (list operation) o.storage) x

-- ---- views

-- a view over a storage of a type with its code
pub record HasCode (s : Kind) (v : TypedView) (w : ViewCode) : Type 0 where
  pub inner : Codes
  pub whole : w ≡ made.view v.name v.input v.output inner
  pub sequence : v.body.node ≡ seq (inside v.body.node)
  pub typed : AreCode standing.view (inside v.body.node) inner (pair v.input s ∷ []) (v.output ∷ [])

abbrev pub IsView : Kind → TypedView → Result CodeOfView CheckError → Type 0
IsView s v (Ok w) = (view_fault s v ≡ None) × HasCode s v (view_code w)
IsView s v (Err (error.IllTyped l)) = view_fault s v ≡ Some l
IsView s v (Err error.Memory) = Unit {0}

-- these are the views with their code
pub record AreViewsOf (s : Kind) (f : Found (List View)) (ws : List CodeOfView) : Type 0 where
  pub views : List View
  pub whole : f ≡ found views
  pub typed : AreViews s views (view_codes ws)

abbrev pub AreTypedViews : Kind → List TypedView → Result (List CodeOfView) CheckError → Type 0
AreTypedViews s vs (Ok ws) = AreViewsOf s (with_views s vs) ws
AreTypedViews s vs (Err (error.IllTyped l)) = with_views s vs ≡ fault l
AreTypedViews s vs (Err error.Memory) = Unit {0}

-- ---- scripts

-- the typing of a script at a location gives this script, which has its node
abbrev pub IsTypedAt : ℕ → Tree → Result Script CheckError → Type 0
IsTypedAt at t (Ok s) = (script_node s ≡ t) × IsTypedScript s
IsTypedAt at t (Err (error.IllTyped l)) = script_at t at ≡ fault l
IsTypedAt at t (Err error.Memory) = Unit {0}

-- the typing of a script gives this script
abbrev pub IsTyped : Tree → Result Script CheckError → Type 0
IsTyped t r = IsTypedAt 0 t r

-- ---- CREATE_CONTRACT

-- the type of the storage that it gives, and the stack below
pub record Origin : Type 0 where
  pub storage : Kind
  pub rest : List Kind

abbrev pub origin : Kind → List Kind → Origin
origin g A = record { storage = g; rest = A }

abbrev pub origin_of : CodeOrigin → Origin
origin_of o = origin (kind o.storage) (kinds o.rest)

-- none where it has no place on this stack
abbrev pub originated : List Kind → Option Origin
originated (option key_hash ∷ mutez ∷ g ∷ A) = Some (origin g A)
originated A = None

abbrev pub is_delegate : Kind → Bool
is_delegate (option key_hash) = true
is_delegate a = false

abbrev pub is_amount : Kind → Bool
is_amount mutez = true
is_amount a = false

-- the stack behind it, where its script's storage has the type that is given; else the fault is here
abbrev pub IsBehind : ℕ → Kind → Origin → Result (List Ty) CheckError → Type 0
IsBehind at s o (Ok ts) = (same_kind s o.storage ≡ true) × (kinds ts ≡ operation ∷ address ∷ o.rest)
IsBehind at s o (Err (error.IllTyped l)) = (same_kind s o.storage ≡ false) × (l ≡ at)
IsBehind at s o (Err error.Memory) = Unit {0}

-- ---- what is put together

abbrev pub script_made : Tree → Outline → Codes → made.ViewCodes → ScriptCode
script_made t o is vs = made.script t o.parameter o.entries o.storage is vs

abbrev pub view_made : TypedView → Codes → ViewCode
view_made v is = made.view v.name v.input v.output is

-- the size of the largest body of views
abbrev pub largest_of : List Item → ℕ
largest_of [] = 0
largest_of (v ∷ vs) = max (size (tree v.body.node.now)) (largest_of vs)
