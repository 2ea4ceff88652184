-- What the walk over the bodies of a script finds.
use Rattle.std.specs.Prelude.{ℕ, ◌+◌, ◌&&◌, max, cond, Bool, true, false, List, [], ◌∷◌, Option, Some, None, option_and_then}
use Rattle.rules_text.specs.declared.nodes.Primitive.TheVariants as p
use Rattle.rules_data.specs.types.Kind.{Kind, list, operation, pair}
use Rattle.rules_text.specs.nodes.Tree.{size}
use Rattle.rules_code.specs.instructions.Arguments.{Found, found, fault}
use Rattle.rules_code.specs.instructions.Context.{main, view}
use Rattle.rules_code.specs.typing.Scripts.{Outline, TypedView, is_small}
use Rattle.rules_code.specs.certificates.Derivation.{Entry}
use Rattle.mich_cert.specs.Bodiless.{one_known}
use Rattle.mich_cert.specs.Table as table
use Rattle.mich_cert.specs.Walk.{arrow, body_of, told}
use Rattle.mich_cert.specs.Words.{line}
use Rattle.mich_cert.specs.declared.words.Word.TheVariants as w

-- what was found of a script, if it is one
abbrev pub if_found : Found Outline → Option Outline
if_found (found o) = Some o
if_found (fault l) = None

-- the greatest location behind the body of a view, or behind that of a script
abbrev pub views_reach : List TypedView → ℕ
views_reach [] = 0
views_reach (v ∷ vs) = max (v.body.location + size v.body.node) (views_reach vs)

abbrev pub bodies_reach : Outline → ℕ
bodies_reach o = max (o.code.location + size o.code.node) (views_reach o.views)

-- the size of the largest body of a view, or of that of a script
abbrev pub views_largest : List TypedView → ℕ
views_largest [] = 0
views_largest (v ∷ vs) = max (size v.body.node) (views_largest vs)

abbrev pub bodies_largest : Outline → ℕ
bodies_largest o = max (size o.code.node) (views_largest o.views)

-- a body begins with the pair of an argument and the storage
abbrev pub script_begins : Kind → Kind → List Kind → Bool
script_begins a s B = line [] (w.Pair ∷ w.A ∷ w.B ∷ []) (arrow a s) [] B

-- the code ends with operations and the storage, and a view with its output, where they don't fail
abbrev pub code_ends : Kind → Kind → Option (List Kind) → Bool
code_ends a s None = true
code_ends a s (Some E) = line [] (w.Pair ∷ w.List ∷ w.Operation ∷ w.B ∷ []) (arrow a s) [] E

abbrev pub view_ends : Kind → Option (List Kind) → Bool
view_ends r None = true
view_ends r (Some E) = line [] (w.A ∷ []) (one_known r) [] E

abbrev pub code_walk : Outline → ℕ → List Entry → Option (List Entry)
code_walk o base es =
    cond (is_small (pair o.parameter o.storage) && is_small (pair (list operation) o.storage))
    (option_and_then (λ x. cond (script_begins o.parameter o.storage x.begins && code_ends o.parameter o.storage x.ends) (Some x.rest) None)
    (body_of o.code.node (base + o.code.location) (main o.entries) es))
    None

abbrev pub view_walk : Kind → TypedView → ℕ → List Entry → Option (List Entry)
view_walk s v base es =
    cond (is_small (pair v.input s))
    (option_and_then (λ x. cond (script_begins v.input s x.begins && view_ends v.output x.ends) (Some x.rest) None) (body_of v.body.node (base + v.body.location) view es))
    None

abbrev pub views_walk : Kind → List TypedView → ℕ → List Entry → Option (List Entry)
views_walk s [] base es = Some es
views_walk s (v ∷ vs) base es = option_and_then (views_walk s vs base) (view_walk s v base es)

-- the walk over a script, whose locations are counted from one
abbrev pub script_walk : Outline → ℕ → List Entry → Option (List Entry)
script_walk o base es = option_and_then (views_walk o.storage o.views base) (code_walk o base es)

-- the walk over CREATE_CONTRACT at a location, whose script has these types
abbrev pub create_walk : Outline → ℕ → List Kind → List Entry → Option (List Entry)
create_walk o at A es =
    option_and_then (λ fs. option_and_then (λ B. cond (table.written p.OpCreateContract (one_known o.storage) A B) (Some fs) None) (told fs)) (script_walk o (at + 1) es)

-- whether the entries are those of the script, and no others
abbrev pub is_whole : Option (List Entry) → Bool
is_whole (Some []) = true
is_whole es = false

abbrev pub confirms : Option Outline → List Entry → Bool
confirms None es = false
confirms (Some o) es = is_whole (script_walk o 0 es)
