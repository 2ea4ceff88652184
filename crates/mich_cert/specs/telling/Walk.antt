-- What the walk over a script says of its typing and of its derivation.
use Rattle.std.specs.Prelude.{◌≡◌, ◌+◌, ℕ, ◌++◌, Bool, List, [], ◌∷◌, Option, Some, None, Result, Ok, Err, max}
use Rattle.rules_text.specs.nodes.Primitives.{primitive_of_name}
use Rattle.rules_text.specs.nodes.Tree.{Tree, prim, seq, Trees, size}
use Rattle.rules_data.specs.types.Kind.{Kind, pair}
use Rattle.rules_data.specs.values.Val.{Val}
use Rattle.rules_data.specs.values.Literals.{Literal, good, bad, Pending, body, claim}
use Rattle.rules_code.specs.instructions.Arguments.{Found, found, fault}
use Rattle.rules_code.specs.instructions.Context.{Context, lambda, main, view}
use Rattle.rules_code.specs.instructions.Control.{call_kinds}
use Rattle.rules_code.specs.typing.Typing.{Typing, shift}
use Rattle.rules_code.specs.typing.Nodes.{outline, tree_type}
use Rattle.rules_code.specs.typing.Scripts.{Script, Outline, TypedView, view_fault}
use Rattle.rules_code.specs.typing.Bodies.{first_fault}
use Rattle.rules_code.specs.certificates.Blocks.{blocks}
use Rattle.rules_code.specs.certificates.Derivation.{Entry, end, failing, block_entries, of_blocks, tellers, trees_entries}
use Rattle.rules_code.specs.instructions.Forms.{form_of}
use Rattle.mich_base.specs.declared.ty.Ty.{Ty}
use Rattle.mich_base.specs.TypeView.{kind}
use Rattle.mich_base.specs.View.{tree}
use Rattle.mich_outline.specs.View.{outline_of}
use Rattle.mich_outline.specs.declared.outline.Outline.{Outline as CodeOutline}
use Rattle.mich_outline.specs.declared.outline.View.{View}
use Rattle.mich_control.specs.Answers.{typing, IsFault, inside}
use Rattle.mich_typed.specs.declared.error.CheckError.{CheckError}
use Rattle.mich_typed.specs.declared.error.CheckError.TheVariants as error
use Rattle.mich_typed.specs.declared.made.Made.{Made}
use Rattle.mich_data.specs.View.{all_pending}
use Rattle.mich_data.specs.declared.pending.Pending.{Pending as Item}
use Rattle.mich_overload.specs.View.{kinds}
use Rattle.mich_cert.specs.telling.Told.{Adds}
use Rattle.mich_cert.specs.declared.telling.told.Told.{Told}

-- a typing gives this stack, and these entries are told; or its fault is here
abbrev pub Follows : Typing → List Entry → Told → Told → Result (Option (List Ty)) CheckError → Type 0
Follows T es old new (Ok after) = (T ≡ typing after) × Adds old new es
Follows T es old new (Err e) = IsFault T e

-- bodies have no fault, and these entries are told; or their first fault is here
abbrev pub Confirms : {A : Type 0} → Option ℕ → List Entry → Told → Told → Result A CheckError → Type 0
Confirms f es old new (Ok u) = (f ≡ None) × Adds old new es
Confirms f es old new (Err (error.IllTyped l)) = f ≡ Some l
Confirms f es old new (Err error.Memory) = Unit {0}

-- ---- blocks and instructions

-- how a block at a location ends
abbrev pub end_entries : ℕ → Option (List Ty) → List Entry
end_entries at (Some ts) = end at (kinds ts) ∷ []
end_entries at None = failing at ∷ []

-- the entries of the blocks within an application
abbrev pub app_entries : List ℕ → Trees → ℕ → Context → List Kind → List Entry
app_entries name ts at c A = of_blocks (tellers ts (at + 1)) (blocks (form_of (primitive_of_name name)) ts c A)

-- the entries behind the first of a node
abbrev pub within : Tree → ℕ → Context → List Kind → List Entry
within (prim name annots ts) at c A = app_entries name ts at c A
within (seq ts) at c A = trees_entries ts at (at + 1) c A
within t at c A = []

-- so the typing of an application at a location, with the entries of the blocks within it
abbrev pub FollowsApp : ℕ → Context → List ℕ → List (List ℕ) → Trees → List Kind → Told → Told → Result (Option (List Ty)) CheckError → Type 0
FollowsApp at c name annots ts A old new r = Follows (shift at (tree_type (prim name annots ts) c A)) (app_entries name ts at c A) old new r

-- the stack behind what was made
abbrev pub after_of : Result Made CheckError → Result (Option (List Ty)) CheckError
after_of (Ok m) = Ok m.after
after_of (Err e) = Err e

-- ---- literals

-- bodies are sequences
abbrev pub AreSequences : List Pending → Type 0
AreSequences [] = Unit {0}
AreSequences (body l a r recursive t ∷ ps) = (t ≡ seq (inside t)) × AreSequences ps
AreSequences (claim l b a ∷ ps) = AreSequences ps

-- what is still to be tried of a literal at a location, read from one node, counted from another at which it stands
abbrev pub IsReadBy : ℕ → Literal Val → Result (List Item) CheckError → Type 0
IsReadBy at r (Ok ps) = (x : Val) × (r ≡ good x (all_pending ps))
IsReadBy at r (Err (error.IllTyped l)) = (m : ℕ) × (r ≡ bad m) × (l ≡ at + m)
IsReadBy at r (Err error.Memory) = Unit {0}

-- the entries of a node at a location as the body of a lambda
abbrev pub called_entries : ℕ → Kind → Kind → Bool → Tree → List Entry
called_entries at a r recursive t = block_entries t at lambda (call_kinds a r recursive)

-- the entries of the bodies in a literal, whose locations are counted from one
abbrev pub pending_entries : ℕ → List Pending → List Entry
pending_entries at [] = []
pending_entries at (body l a r recursive t ∷ ps) = called_entries (at + l) a r recursive t ++ pending_entries at ps
pending_entries at (claim l b a ∷ ps) = pending_entries at ps

-- ---- scripts

-- the entries of the bodies of a script, whose locations are counted from one
abbrev pub views_entries : ℕ → Kind → List TypedView → List Entry
views_entries at s [] = []
views_entries at s (v ∷ vs) = block_entries v.body.node (at + v.body.location) view (pair v.input s ∷ []) ++ views_entries at s vs

abbrev pub code_entries : ℕ → Outline → List Entry
code_entries at o = block_entries o.code.node (at + o.code.location) (main o.entries) (pair o.parameter o.storage ∷ [])

abbrev pub outline_entries : ℕ → Outline → List Entry
outline_entries at o = code_entries at o ++ views_entries at o.storage o.views

abbrev pub found_entries : ℕ → Found Outline → List Entry
found_entries at (found o) = outline_entries at o
found_entries at (fault l) = []

abbrev pub script_entries : ℕ → Tree → List Entry
script_entries at t = found_entries at (outline t)

-- the types of a script and its bodies, whose locations are counted from it; or its first fault is here
abbrev pub IsOutline : ℕ → Tree → Result CodeOutline CheckError → Type 0
IsOutline at t (Ok o) = outline t ≡ found (outline_of o)
IsOutline at t (Err (error.IllTyped l)) = (m : ℕ) × (outline t ≡ fault m) × (l ≡ at + m)
IsOutline at t (Err error.Memory) = Unit {0}

-- the first fault of the bodies of views
abbrev pub views_fault : Kind → List TypedView → Option ℕ
views_fault s [] = None
views_fault s (v ∷ vs) = first_fault (view_fault s v) (views_fault s vs)

-- the greatest location behind the body of a view
abbrev pub views_reach : List View → ℕ
views_reach [] = 0
views_reach (v ∷ vs) = max (v.body.at + size (tree v.body.node.now)) (views_reach vs)

-- the script at a location is accepted with a storage of this type, and these entries are told; or its first fault is here
abbrev pub IsScript : ℕ → Found Script → List Entry → Told → Told → Result Ty CheckError → Type 0
IsScript at f es old new (Ok storage) = ((s : Script) × (f ≡ found s) × (s.storage ≡ kind storage)) × Adds old new es
IsScript at f es old new (Err (error.IllTyped l)) = (m : ℕ) × (f ≡ fault m) × (l ≡ at + m)
IsScript at f es old new (Err error.Memory) = Unit {0}
