-- The sections of a script: which there are, and whether each is there once (Michelson reference, "Scripts" and "Views").
use Rattle.std.specs.Prelude.{ℕ, ◌+◌, if◌then◌else◌, List, [], ◌∷◌, ◌++◌, Option, Some, None}
use Rattle.std.specs.Str.{bytes_eq}
use Rattle.rules_text.specs.nodes.Tree.{Tree, str, prim, seq, Trees, none, more, size}
use Rattle.rules_text.specs.nodes.Primitives.{primitive_of_name}
use Rattle.rules_text.specs.declared.nodes.Primitive.{Primitive}
use Rattle.rules_text.specs.declared.nodes.Primitive.TheVariants as p
use Rattle.rules_code.specs.instructions.Arguments.{Found, found, fault, and_then, is_view_name}
use Rattle.rules_code.specs.typing.Typing.{Typer}

-- an element of a script, with its location and the typings of its arguments
pub record Section : Type 0 where
  pub location : ℕ
  pub node : Tree
  pub arguments : List Typer

-- a node of a section with its location
pub record Placed : Type 0 where
  pub location : ℕ
  pub node : Tree

-- a body with its location and its typing
pub record Body : Type 0 where
  pub location : ℕ
  pub node : Tree
  pub typing : Typer

-- a view as it is written
pub record WrittenView : Type 0 where
  pub name : List ℕ
  pub input : Placed
  pub output : Placed
  pub body : Body

-- what a section is: `parameter t` whole, `storage t` by its type, `code { }` by its body, `view "name" t u { }`
pub data Content : Type 0 where
  parameter_section : Placed → Content
  storage_section : Placed → Content
  code_section : Body → Content
  view_section : WrittenView → Content
  no_section : Content

abbrev pub placed : ℕ → Tree → Placed
placed at t = record { location = at; node = t }

abbrev pub a_body : ℕ → Tree → Typer → Body
a_body at t typing = record { location = at; node = t; typing = typing }

abbrev pub view_content : ℕ → List ℕ → Tree → Tree → Tree → Typer → Content
view_content at name t u b typing =
    if is_view_name name
    then view_section record { name = name; input = placed (at + 2) t; output = placed (at + 2 + size t) u; body = a_body (at + 2 + size t + size u) b typing }
    else no_section

-- by the name, the arguments and their typings
abbrev pub content_of : Option Primitive → ℕ → Tree → Trees → List Typer → Content
content_of (Some p.SectionParameter) at t (more u none) typings = parameter_section (placed at t)
content_of (Some p.SectionStorage) at t (more u none) typings = storage_section (placed (at + 1) u)
content_of (Some p.SectionCode) at t (more (seq ts) none) (typing ∷ []) = code_section (a_body (at + 1) (seq ts) typing)
content_of (Some p.SectionView) at t (more (str name) (more u (more w (more (seq ts) none)))) (n ∷ i ∷ o ∷ typing ∷ []) =
    view_content at name u w (seq ts) typing
content_of name at t args typings = no_section

abbrev pub content_at : ℕ → Tree → List Typer → Content
content_at at (prim name annots args) typings = content_of (primitive_of_name name) at (prim name annots args) args typings
content_at at t typings = no_section

-- the sections so far
pub record Contents : Type 0 where
  pub parameter : Option Placed
  pub storage : Option Placed
  pub code : Option Body
  pub views : List WrittenView

abbrev pub no_contents : Contents
no_contents = record { parameter = None; storage = None; code = None; views = [] }

-- a section that stands for the first time; a fault at a location, where it doesn't
abbrev pub once : {A : Type 0} → ℕ → Option A → Contents → Found Contents
once at None c = found c
once at (Some earlier) c = fault at

abbrev pub view_named : List ℕ → List WrittenView → Option WrittenView
view_named name [] = None
view_named name (v ∷ vs) = if bytes_eq v.name name then Some v else view_named name vs

abbrev pub with_content : Contents → ℕ → Content → Found Contents
with_content c at (parameter_section s) = once at c.parameter record c { parameter = Some s }
with_content c at (storage_section s) = once at c.storage record c { storage = Some s }
with_content c at (code_section b) = once at c.code record c { code = Some b }
with_content c at (view_section v) = once at (view_named v.name c.views) record c { views = c.views ++ v ∷ [] }
with_content c at no_section = fault at

-- the sections from left to right
abbrev pub with_sections : Contents → List Section → Found Contents
with_sections c [] = found c
with_sections c (s ∷ ss) = and_then (with_content c s.location (content_at s.location s.node s.arguments)) (λ d. with_sections d ss)
