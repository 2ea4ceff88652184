-- The entrypoints of a parameter (Michelson reference, "Entrypoints").
use Rattle.std.specs.Prelude.{ℕ, ◌+◌, ◌==◌, Bool, true, false, if◌then◌else◌, List, [], ◌∷◌, ◌++◌, length, Option, Some, None, codes}
use Rattle.std.specs.Str.{bytes_eq}
use Rattle.rules_text.specs.nodes.Tree.{Tree, prim, Trees, none, more, size}
use Rattle.rules_data.specs.forms.Spelling.{default_name, is_entrypoint}
use Rattle.rules_data.specs.types.Kind.{Kind}
use Rattle.rules_data.specs.types.Kind as k
use Rattle.rules_data.specs.types.Attributes.{passable}
use Rattle.rules_data.specs.types.Reading.{Reading, a_type, bad_type, too_large, type_at}

-- the name that the first field annotation, one that begins with %, gives; an empty one gives none
abbrev pub behind_sign : List ℕ → Option (List ℕ)
behind_sign [] = None
behind_sign (c ∷ cs) = if c == 37 then Some cs else None

abbrev pub nonempty : List ℕ → Option (List ℕ)
nonempty name = if length name == 0 then None else Some name

abbrev pub first_name : Option (List ℕ) → Option (List ℕ) → Option (List ℕ)
first_name (Some name) later = nonempty name
first_name None later = later

abbrev pub field_name : List (List ℕ) → Option (List ℕ)
field_name [] = None
field_name (annot ∷ annots) = first_name (behind_sign annot) (field_name annots)

abbrev pub annotations : Tree → List (List ℕ)
annotations (prim name annots args) = annots
annotations _ = []

-- an entrypoint: its name, its path from the root, where true is right, and its type
pub record Entry : Type 0 where
  pub name : List ℕ
  pub path : List Bool
  pub kind : Kind

-- a node that may be an entrypoint: its location, its name if it has one, its path and its type
pub record Branch : Type 0 where
  pub location : ℕ
  pub name : Option (List ℕ)
  pub path : List Bool
  pub kind : Kind

abbrev pub branch : ℕ → Tree → List Bool → Kind → Branch
branch at t path a = record { location = at; name = field_name (annotations t); path = path; kind = a }

-- the left branches before the right ones
unfoldable pub in_order : List Branch → List Branch → List Branch
in_order left right = left ++ right

-- the branches below a node of a type, in pre-order: those of an `or`, and of an `or` that is such a branch
abbrev pub below : Kind → ℕ → Tree → List Bool → List Branch
below (k.or a b) at (prim name annots (more l (more r none))) path =
    in_order
    (branch (at + 1) l (path ++ false ∷ []) a ∷ below a (at + 1) l (path ++ false ∷ []))
    (branch (at + 1 + size l) r (path ++ true ∷ []) b ∷ below b (at + 1 + size l) r (path ++ true ∷ []))
below a at t path = []

-- the entrypoint of a name, if there is one
abbrev pub find_entry : List ℕ → List Entry → Option Entry
find_entry name [] = None
find_entry name (e ∷ es) = if bytes_eq e.name name then Some e else find_entry name es

-- entrypoints, or the first fault: a branch with a bad name, or with the name of an earlier one
pub data Entries : Type 0 where
  entries : List Entry → Entries
  bad_name : ℕ → Entries
  repeated : ℕ → Entries

abbrev pub then_entries : Entries → (List Entry → Entries) → Entries
then_entries (entries es) next = next es
then_entries (bad_name l) next = bad_name l
then_entries (repeated l) next = repeated l

-- the entrypoints so far with a branch
abbrev pub with_new : Option Entry → List Entry → ℕ → List ℕ → List Bool → Kind → Entries
with_new None es at name path a = entries (es ++ record { name = name; path = path; kind = a } ∷ [])
with_new (Some earlier) es at name path a = repeated at

abbrev pub with_name : List Entry → ℕ → List ℕ → List Bool → Kind → Entries
with_name es at name path a = if is_entrypoint name then with_new (find_entry name es) es at name path a else bad_name at

abbrev pub with_named : List Entry → ℕ → Option (List ℕ) → List Bool → Kind → Entries
with_named es at None path a = entries es
with_named es at (Some name) path a = with_name es at name path a

abbrev pub with_branch : List Entry → Branch → Entries
with_branch es b = with_named es b.location b.name b.path b.kind

abbrev pub with_branches : List Entry → List Branch → Entries
with_branches es [] = entries es
with_branches es (b ∷ bs) = then_entries (with_branch es b) (λ more. with_branches more bs)

-- the root as a branch: it is named by the section, at 0, or else by the type, at 1
abbrev pub root_by : Option (List ℕ) → Tree → Kind → Branch
root_by (Some name) t a = record { location = 0; name = Some name; path = []; kind = a }
root_by None t a = branch 1 t [] a

-- without an entrypoint of this name, `default` is the root
abbrev pub or_default : Option Entry → Kind → List Entry → List Entry
or_default None a es = es ++ record { name = default_name; path = []; kind = a } ∷ []
or_default (Some earlier) a es = es

abbrev pub with_default : Kind → List Entry → Entries
with_default a es = entries (or_default (find_entry default_name es) a es)

-- the entrypoints of a type at 1 under a section with annotations: the root, the branches in pre-order, `default`
abbrev pub entries_of : List (List ℕ) → Tree → Kind → Entries
entries_of annots t a = then_entries (with_branches [] (root_by (field_name annots) t a ∷ below a 1 t [])) (with_default a)

-- a parameter with its type and entrypoints, or its first fault
pub data Parameter : Type 0 where
  a_parameter : Kind → List Entry → Parameter
  bad_parameter : ℕ → Parameter
  large_parameter : Parameter
  repeated_entrypoint : ℕ → Parameter

abbrev pub of_entries : Kind → Entries → Parameter
of_entries a (entries es) = a_parameter a es
of_entries a (bad_name l) = bad_parameter l
of_entries a (repeated l) = repeated_entrypoint l

abbrev pub of_reading : List (List ℕ) → Tree → Reading → Parameter
of_reading annots t (a_type a) = if passable a then of_entries a (entries_of annots t a) else bad_parameter 1
of_reading annots t (bad_type l) = bad_parameter l
of_reading annots t too_large = large_parameter

abbrev pub of_section : Bool → List (List ℕ) → Trees → Parameter
of_section true annots (more t none) = of_reading annots t (type_at 1 t)
of_section true annots none = bad_parameter 0
of_section true annots (more t (more u us)) = bad_parameter 0
of_section false annots args = bad_parameter 0

-- the section `parameter t`; any other node is bad at 0
abbrev pub parameter : Tree → Parameter
parameter (prim name annots args) = of_section (bytes_eq name (codes "parameter")) annots args
parameter _ = bad_parameter 0
