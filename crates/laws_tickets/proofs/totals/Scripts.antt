-- Scripts that are accepted: their types are well formed, and a view reads a storage of the storage's type.
use Rattle.std.proofs.Common.{◌≡◌, ℕ, Bool, true, false, List, [], ◌∷◌, Option, Some, None, refl, subst}
use Rattle.std.specs.Prelude.{if◌then◌else◌, codes}
use Rattle.std.specs.Str.{bytes_eq}
use Rattle.std.specs.List.{AllByRecursion}
use Rattle.rules_text.specs.nodes.Tree.{Tree, int, str, bytes, prim, seq, Trees, none, more}
use Rattle.rules_data.specs.types.Kind.{Kind}
use Rattle.rules_data.specs.types.Attributes.{passable, storable, packable}
use Rattle.rules_data.specs.types.Reading.{Reading, a_type, bad_type, too_large, type_at}
use Rattle.rules_data.specs.types.Entrypoints.{Entry, Entries, entries, bad_name, repeated, Parameter, a_parameter, bad_parameter, large_parameter, repeated_entrypoint, entries_of, of_entries, of_reading, of_section, parameter}
use Rattle.rules_code.specs.instructions.Arguments.{Found, found, fault, and_then}
use Rattle.rules_code.specs.typing.Sections.{Placed, Body, WrittenView, no_contents, with_sections}
use Rattle.rules_code.specs.typing.Scripts.{Script, Entered, of_parameter, parameter_of, typed_as, TypedView, typed_view, typed_views, Outline, with_types, of_parts, of_contents, unless_fault, code_fault, with_views, a_script, with_bodies}
use Rattle.rules_code.specs.typing.Nodes.{sections, outline, script}
use Rattle.laws_data.specs.types.Laws.{IsWellFormed}
use Rattle.laws_tickets.proofs.totals.Paths.{EntriesLead, AllLead, entries_lead}
use Rattle.laws_tickets.proofs.totals.Arguments.{AllFound, HasAttribute, type_well, type_argument_all, and_then_all, and_then_both}

-- ---- the parameter

-- its type is well formed, and the paths of its entrypoints lead to their types
abbrev IsParameter : Kind → List Entry → Type 0
IsParameter a es = IsWellFormed a × EntriesLead a es

abbrev AllParameter : Parameter → Type 0
AllParameter (a_parameter a es) = IsParameter a es
AllParameter (bad_parameter l) = Unit {0}
AllParameter large_parameter = Unit {0}
AllParameter (repeated_entrypoint l) = Unit {0}

entries_well : (a : Kind) (es : Entries) → IsWellFormed a → AllLead a es → AllParameter (of_entries a es)
entries_well a (entries es) h i = (h, i)
entries_well a (bad_name l) h i = tt
entries_well a (repeated l) h i = tt

reading_well : (annots : List (List ℕ)) (t : Tree) (r : Reading) → type_at 1 t ≡ r → AllParameter (of_reading annots t r)
reading_well annots t (a_type a) e = by_test (passable a)
  where
    by_test : (b : Bool) → AllParameter (if b then of_entries a (entries_of annots t a) else bad_parameter 1)
    by_test true = entries_well a (entries_of annots t a) (type_well 1 t a e) (entries_lead a annots t)
    by_test false = tt
reading_well annots t (bad_type l) e = tt
reading_well annots t too_large e = tt

section_well : (b : Bool) (annots : List (List ℕ)) (ts : Trees) → AllParameter (of_section b annots ts)
section_well true annots (more t none) = reading_well annots t (type_at 1 t) refl
section_well true annots none = tt
section_well true annots (more t (more u us)) = tt
section_well false annots ts = tt

parameter_well : (t : Tree) → AllParameter (parameter t)
parameter_well (prim name annots ts) = section_well (bytes_eq name (codes "parameter")) annots ts
parameter_well (int n) = tt
parameter_well (str b) = tt
parameter_well (bytes b) = tt
parameter_well (seq ts) = tt

entered_well : (at : ℕ) (p : Parameter) → AllParameter p →
    AllFound (λ (e : Entered). IsParameter e.kind e.entries) (of_parameter at p)
entered_well at (a_parameter a es) h = h
entered_well at (bad_parameter l) h = tt
entered_well at large_parameter h = tt
entered_well at (repeated_entrypoint l) h = tt

-- ---- views

-- the input of a view can be packed
abbrev pub HasPackableInput : TypedView → Type 0
HasPackableInput t = packable t.input ≡ true

typed_view_packable : (w : WrittenView) → AllFound HasPackableInput (typed_view w)
typed_view_packable w =
    and_then_both (HasAttribute packable) HasPackableInput (typed_as packable w.input)
    (λ a. and_then (typed_as packable w.output) (λ b. found (record { name = w.name; input = a; output = b; body = w.body })))
    (type_argument_all packable w.input.location w.input.node)
    (λ a h. and_then_all HasPackableInput (typed_as packable w.output)
    (λ b. found (record { name = w.name; input = a; output = b; body = w.body })) (λ b. h.0))

typed_views_packable : (ws : List WrittenView) → AllFound (AllByRecursion HasPackableInput) (typed_views ws)
typed_views_packable [] = tt
typed_views_packable (w ∷ ws) =
    and_then_both HasPackableInput (AllByRecursion HasPackableInput) (typed_view w)
    (λ t. and_then (typed_views ws) (λ ts. found (t ∷ ts))) (typed_view_packable w) (λ t h.
    and_then_both (AllByRecursion HasPackableInput) (AllByRecursion HasPackableInput) (typed_views ws) (λ ts. found (t ∷ ts))
    (typed_views_packable ws) (λ ts i. (h, i)))

-- ---- outlines

-- the types of a script
pub record IsTyped (o : Outline) : Type 0 where
  pub parameter : IsWellFormed o.parameter
  pub entries : EntriesLead o.parameter o.entries
  pub storage : IsWellFormed o.storage
  pub views : AllByRecursion HasPackableInput o.views

parts_typed : (at : ℕ) (a s : Option Placed) (b : Option Body) (vs : List WrittenView) → AllFound IsTyped (of_parts at a s b vs)
parts_typed at (Some a) (Some s) (Some b) vs =
    and_then_both (λ (x : Entered). IsParameter x.kind x.entries) IsTyped (parameter_of a)
    (λ x. and_then (typed_as storable s) (λ t. and_then (typed_views vs) (λ ws. found (with_types x t ws b))))
    (entered_well a.location (parameter a.node) (parameter_well a.node)) (λ x h.
    and_then_both (HasAttribute storable) IsTyped (typed_as storable s)
    (λ t. and_then (typed_views vs) (λ ws. found (with_types x t ws b))) (type_argument_all storable s.location s.node) (λ t i.
    and_then_both (AllByRecursion HasPackableInput) IsTyped (typed_views vs) (λ ws. found (with_types x t ws b))
    (typed_views_packable vs) (λ ws j. record { parameter = h.0; entries = h.1; storage = i.1; views = j })))
parts_typed at None s b vs = tt
parts_typed at (Some a) None b vs = tt
parts_typed at (Some a) (Some s) None vs = tt

outline_all : (t : Tree) → AllFound IsTyped (outline t)
outline_all (seq ts) =
    and_then_all IsTyped (with_sections no_contents (sections ts 1)) (of_contents 0)
    (λ c. parts_typed 0 c.parameter c.storage c.code c.views)
outline_all (int n) = tt
outline_all (str b) = tt
outline_all (bytes b) = tt
outline_all (prim name annots ts) = tt

pub outline_typed : (t : Tree) (o : Outline) → outline t ≡ found o → IsTyped o
outline_typed t o e = let h : AllFound IsTyped (found o) = subst (AllFound IsTyped) e (outline_all t) in h

-- ---- scripts

-- a script with the types of its outline
pub record IsOutlined (t : Tree) (s : Script) : Type 0 where
  pub types : Outline
  pub outlined : outline t ≡ found types
  pub parameter : s.parameter ≡ types.parameter
  pub entries : s.entries ≡ types.entries
  pub storage : s.storage ≡ types.storage

unless_all : {A : Type 0} (P : A → Type 0) (o : Option ℕ) (x : Found A) → AllFound P x → AllFound P (unless_fault o x)
unless_all P None x h = h
unless_all P (Some l) x h = tt

with_bodies_all : (t : Tree) (o : Found Outline) → outline t ≡ o → AllFound (IsOutlined t) (and_then o with_bodies)
with_bodies_all t (found o) e =
    unless_all (IsOutlined t) (code_fault o) (and_then (with_views o.storage o.views) (λ vs. found (a_script o vs)))
    (and_then_all (IsOutlined t) (with_views o.storage o.views) (λ vs. found (a_script o vs))
    (λ vs. record { types = o; outlined = e; parameter = refl; entries = refl; storage = refl }))
with_bodies_all t (fault l) e = tt

script_all : (t : Tree) → AllFound (IsOutlined t) (script t)
script_all (int n) = tt
script_all (str b) = tt
script_all (bytes b) = tt
script_all (prim name annots ts) = tt
script_all (seq ts) = with_bodies_all (seq ts) (outline (seq ts)) refl

pub script_is : (t : Tree) (s : Script) → script t ≡ found s → IsOutlined t s
script_is t s e = let h : AllFound (IsOutlined t) (found s) = subst (AllFound (IsOutlined t)) e (script_all t) in h
