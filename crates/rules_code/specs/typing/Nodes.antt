-- The typing of nodes as instructions, and of scripts (Michelson reference, "Typing", "Scripts"). A sequence is a block,
-- whose instructions are typed from left to right; a node that is neither a sequence nor an application is a fault at it.
use Rattle.std.specs.Prelude.{ℕ, ◌+◌, ◌-◌, List, [], ◌∷◌, ◌++◌, Option, Some, None, slice_get}
use Rattle.rules_text.specs.nodes.Tree.{Tree, int, str, bytes, prim, seq, Trees, none, more, size}
use Rattle.rules_text.specs.nodes.Primitives.{primitive_of_name}
use Rattle.rules_text.specs.declared.nodes.Primitive.{Primitive}
use Rattle.rules_code.specs.instructions.Arguments.{Found, found, fault, and_then}
use Rattle.rules_code.specs.instructions.Forms.{form_of}
use Rattle.rules_code.specs.typing.Typing.{goes, bad, Typer, shift, in_block}
use Rattle.rules_code.specs.typing.Sections.{Section}
use Rattle.rules_code.specs.typing.Scripts.{Script, Outline, outline_of, with_bodies}
use Rattle.rules_code.specs.typing.Acts.{Meanings, act_type}

abbrev pub named_type : Option Primitive → List (List ℕ) → Trees → Meanings → Typer
named_type name annots ts m c A = act_type (form_of name) name annots ts m c A

-- the typing with a number, if there is one
abbrev pub typing_of : Option Typer → Typer
typing_of (Some typing) c A = typing c A
typing_of None c A = bad 0

-- what was read of a node at a location
abbrev pub found_at : {A : Type 0} → ℕ → Found A → Found A
found_at at (found x) = found x
found_at at (fault l) = fault (at + l)

abbrev mutual
  -- a node as an instruction
  pub tree_type : Tree → Typer
  tree_type (int n) c A = bad 0
  tree_type (str s) c A = bad 0
  tree_type (bytes b) c A = bad 0
  tree_type (prim name annots ts) c A =
      named_type (primitive_of_name name) annots ts record {
        bodies = bodies ts 1;
        script = λ at. script_in ts at;
        typing_at = λ l c A. shift l (typing_of (slice_get (typings ts) (l - 1)) c A);
      } c A
  tree_type (seq ts) c A = shift 1 (trees_type ts c A)

  -- one after another
  pub trees_type : Trees → Typer
  trees_type none c A = goes A
  trees_type (more t ts) c A = in_block (tree_type t c A) ts (λ B. shift (size t) (trees_type ts c B))

  -- each argument as a body, the first at a location; one that is no sequence is a fault at it
  pub bodies : Trees → ℕ → List Typer
  bodies none at = []
  bodies (more t ts) at = body t at ∷ bodies ts (at + size t)

  pub body : Tree → ℕ → Typer
  body (seq ts) at c A = shift (at + 1) (trees_type ts c A)
  body t at c A = bad at

  -- the typings of nodes and of all nodes within them, in pre-order
  pub typings : Trees → List Typer
  typings none = []
  typings (more t ts) = (λ c A. tree_type t c A) ∷ inner_typings t ++ typings ts

  pub inner_typings : Tree → List Typer
  inner_typings (prim name annots ts) = typings ts
  inner_typings (seq ts) = typings ts
  inner_typings t = []

  -- the one argument as a script at a location
  pub script_in : Trees → ℕ → Found Script
  script_in (more t none) at = found_at at (script_at t 0)
  script_in ts at = fault at

  pub script_at : Tree → ℕ → Found Script
  script_at (seq ts) at = and_then (outline_of at (sections ts (at + 1))) with_bodies
  script_at t at = fault at

  -- nodes as sections, the first at a location
  pub sections : Trees → ℕ → List Section
  sections none at = []
  sections (more t ts) at = record { location = at; node = t; arguments = inner_bodies t at } ∷ sections ts (at + size t)

  pub inner_bodies : Tree → ℕ → List Typer
  inner_bodies (prim name annots ts) at = bodies ts (at + 1)
  inner_bodies t at = []

-- the types of a script, whose bodies aren't tried, or the location of their first fault
abbrev pub outline : Tree → Found Outline
outline (seq ts) = outline_of 0 (sections ts 1)
outline t = fault 0

-- the typing of a script, or the location of its first fault
abbrev pub script : Tree → Found Script
script t = script_at t 0
