-- The typing of a script from its sections (Michelson reference, "Scripts" and "Views"). Its faults come in this order: a
-- section, that one is missing, the parameter with its entrypoints, the storage, the types of each view, the code, the
-- body of each view.
use Rattle.std.specs.Prelude.{ℕ, ◌+◌, ◌&&◌, nat_le, if◌then◌else◌, Bool, List, [], ◌∷◌, Option, Some, None}
use Rattle.rules_text.specs.nodes.Limits.{type_limit}
use Rattle.rules_text.specs.nodes.Tree.{Tree}
use Rattle.rules_data.specs.types.Kind.{Kind, nodes, operation, pair, list}
use Rattle.rules_data.specs.types.Attributes.{storable, packable}
use Rattle.rules_data.specs.types.Entrypoints.{Entry, Parameter, a_parameter, bad_parameter, large_parameter, repeated_entrypoint, parameter}
use Rattle.rules_code.specs.instructions.Context.{Context, main, view}
use Rattle.rules_code.specs.instructions.Arguments.{Found, found, fault, and_then, type_argument}
use Rattle.rules_code.specs.typing.Bodies.{body_fault}
use Rattle.rules_code.specs.typing.Sections.{Section, Placed, Body, WrittenView, Contents, no_contents, with_sections}

-- a view: its name, the types of its input and output, and its body
pub record View : Type 0 where
  pub name : List ℕ
  pub input : Kind
  pub output : Kind
  pub body : Tree

-- a script: the parameter's type and entrypoints, the storage's type, the code and the views
pub record Script : Type 0 where
  pub parameter : Kind
  pub entries : List Entry
  pub storage : Kind
  pub code : Tree
  pub views : List View

-- ---- types

-- the parameter's type with its entrypoints
pub record Entered : Type 0 where
  pub kind : Kind
  pub entries : List Entry

abbrev pub of_parameter : ℕ → Parameter → Found Entered
of_parameter at (a_parameter a es) = found record { kind = a; entries = es }
of_parameter at (bad_parameter l) = fault (at + l)
of_parameter at large_parameter = fault (at + 1)
of_parameter at (repeated_entrypoint l) = fault (at + l)

abbrev pub parameter_of : Placed → Found Entered
parameter_of s = of_parameter s.location (parameter s.node)

abbrev pub typed_as : (Kind → Bool) → Placed → Found Kind
typed_as asked s = type_argument asked s.location s.node

-- a view with its types, and the typing of its body
pub record TypedView : Type 0 where
  pub name : List ℕ
  pub input : Kind
  pub output : Kind
  pub body : Body

abbrev pub typed_view : WrittenView → Found TypedView
typed_view v = and_then (typed_as packable v.input) (λ a. and_then (typed_as packable v.output) (λ b.
    found record { name = v.name; input = a; output = b; body = v.body }))

abbrev pub typed_views : List WrittenView → Found (List TypedView)
typed_views [] = found []
typed_views (v ∷ vs) = and_then (typed_view v) (λ t. and_then (typed_views vs) (λ ts. found (t ∷ ts)))

-- a script whose types are read, and whose bodies aren't typed
pub record Outline : Type 0 where
  pub parameter : Kind
  pub entries : List Entry
  pub storage : Kind
  pub code : Body
  pub views : List TypedView

abbrev pub with_types : Entered → Kind → List TypedView → Body → Outline
with_types e s vs b = record { parameter = e.kind; entries = e.entries; storage = s; code = b; views = vs }

-- a script at a location, which is where a missing section is a fault
abbrev pub of_parts : ℕ → Option Placed → Option Placed → Option Body → List WrittenView → Found Outline
of_parts at (Some a) (Some s) (Some b) vs = and_then (parameter_of a) (λ e. and_then (typed_as storable s) (λ t.
    and_then (typed_views vs) (λ ws. found (with_types e t ws b))))
of_parts at a s b vs = fault at

abbrev pub of_contents : ℕ → Contents → Found Outline
of_contents at c = of_parts at c.parameter c.storage c.code c.views

abbrev pub outline_of : ℕ → List Section → Found Outline
outline_of at ss = and_then (with_sections no_contents ss) (of_contents at)

-- ---- bodies

-- goes on where there is no fault
abbrev pub unless_fault : {A : Type 0} → Option ℕ → Found A → Found A
unless_fault (Some l) x = fault l
unless_fault None x = x

abbrev pub is_small : Kind → Bool
is_small a = nat_le (nodes a) type_limit

-- a body from one value to one, whose types must be within the limit, before all else
abbrev pub fault_of_body : Bool → Context → Kind → Kind → Body → Option ℕ
fault_of_body small c a r b = if small then body_fault b.location (b.typing c (a ∷ [])) r else Some b.location

-- the code goes from the parameter and the storage to operations and the new storage
abbrev pub code_fault : Outline → Option ℕ
code_fault o =
    fault_of_body
    (is_small (pair o.parameter o.storage) && is_small (pair (list operation) o.storage))
    (main o.entries)
    (pair o.parameter o.storage)
    (pair (list operation) o.storage)
    o.code

-- a view goes from its input and the storage to its output
abbrev pub view_fault : Kind → TypedView → Option ℕ
view_fault s v = fault_of_body (is_small (pair v.input s)) view (pair v.input s) v.output v.body

abbrev pub a_view : TypedView → View
a_view v = record { name = v.name; input = v.input; output = v.output; body = v.body.node }

abbrev pub with_views : Kind → List TypedView → Found (List View)
with_views s [] = found []
with_views s (v ∷ vs) = unless_fault (view_fault s v) (and_then (with_views s vs) (λ ws. found (a_view v ∷ ws)))

abbrev pub a_script : Outline → List View → Script
a_script o vs = record { parameter = o.parameter; entries = o.entries; storage = o.storage; code = o.code.node; views = vs }

-- the code, and then each view
abbrev pub with_bodies : Outline → Found Script
with_bodies o = unless_fault (code_fault o) (and_then (with_views o.storage o.views) (λ vs. found (a_script o vs)))
