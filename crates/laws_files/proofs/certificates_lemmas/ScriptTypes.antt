-- The types of the blocks of accepted scripts are types.
use Rattle.std.proofs.Common.{◌≡◌, ℕ, ◌≤◌, Bool, true, false, cond, Option, Some, None, List, [], ◌∷◌, refl, sym, subst}
use Rattle.std.specs.Prelude.{◌&&◌, codes}
use Rattle.std.specs.Str.{bytes_eq}
use Rattle.std.proofs.lemmas.Bool.{and_parts, leb-true}
use Rattle.rules_text.specs.nodes.Limits.{type_limit}
use Rattle.rules_text.specs.nodes.Tree.{Tree, int, str, bytes, prim, seq, Trees, none, more, size}
use Rattle.rules_data.specs.types.Kind.{Kind, nodes, pair, list, operation}
use Rattle.rules_data.specs.types.Attributes.{passable, storable}
use Rattle.rules_data.specs.types.Reading.{typed, Reading, a_type, bad_type, too_large, type_at}
use Rattle.rules_data.specs.types.Entrypoints.{Entries, entries, bad_name, repeated, entries_of, Parameter, a_parameter, bad_parameter, large_parameter, repeated_entrypoint, of_entries, of_reading, of_section, parameter}
use Rattle.rules_code.specs.instructions.Context.{Context}
use Rattle.rules_code.specs.instructions.Context as place
use Rattle.rules_code.specs.instructions.Arguments.{Found, found, fault}
use Rattle.rules_code.specs.typing.Sections.{Placed, Body, WrittenView, no_contents, with_sections}
use Rattle.rules_code.specs.typing.Scripts.{Script, of_parameter, parameter_of, typed_as, TypedView, typed_views, Outline, of_parts, of_contents, fault_of_body, code_fault, is_small}
use Rattle.rules_code.specs.typing.Nodes.{outline, script}
use Rattle.rules_code.specs.typing.Nodes as nodes_of
use Rattle.rules_code.specs.certificates.Blocks.{Block, block, view_blocks, outline_blocks, script_blocks}
use Rattle.rules_code.specs.certificates.Blocks as blocks_of
use Rattle.laws_data.specs.types.Laws.{IsWellFormed}
use Rattle.laws_data.proofs.types_lemmas.ForCallers.{read_well, within}
use Rattle.laws_code.proofs.typed.ForCallers.{AllTried, AllTyped, OutlineGood, EntriesAreTypes, all_tried, entries_are_types, outline_good, outlined}
use Rattle.laws_code.proofs.typed.Carried.{FoundHas, found_then}
use Rattle.laws_files.proofs.certificates_lemmas.Types.{BlockTypes}

-- ---- the parameter

abbrev KindOf : Parameter → Type 0
KindOf (a_parameter a es) = IsWellFormed a
KindOf (bad_parameter l) = Unit {0}
KindOf large_parameter = Unit {0}
KindOf (repeated_entrypoint l) = Unit {0}

of_entries_kind : (a : Kind) (x : Entries) → IsWellFormed a → KindOf (of_entries a x)
of_entries_kind a (entries es) h = h
of_entries_kind a (bad_name l) h = tt
of_entries_kind a (repeated l) h = tt

reading_kind : (annots : List (List ℕ)) (t : Tree) (r : Reading) → ((a : Kind) → r ≡ a_type a → IsWellFormed a) → KindOf (of_reading annots t r)
reading_kind annots t (a_type a) h = by (passable a)
  where
    by : (b : Bool) → KindOf (cond b (of_entries a (entries_of annots t a)) (bad_parameter 1))
    by true = of_entries_kind a (entries_of annots t a) (h a refl)
    by false = tt
reading_kind annots t (bad_type l) h = tt
reading_kind annots t too_large h = tt

section_kind : (b : Bool) (annots : List (List ℕ)) (ts : Trees) → KindOf (of_section b annots ts)
section_kind true annots (more t none) = reading_kind annots t (type_at 1 t) (λ a e. read_well 1 t a (within (typed 1 t) a e).0)
section_kind true annots none = tt
section_kind true annots (more t (more u us)) = tt
section_kind false annots ts = tt

parameter_kind : (t : Tree) → KindOf (parameter t)
parameter_kind (prim name annots args) = section_kind (bytes_eq name (codes "parameter")) annots args
parameter_kind (int n) = tt
parameter_kind (str s) = tt
parameter_kind (bytes b) = tt
parameter_kind (seq ts) = tt

entered_kind : (at : ℕ) (x : Parameter) → KindOf x → FoundHas (λ e. IsWellFormed e.kind) (of_parameter at x)
entered_kind at (a_parameter a es) h = h
entered_kind at (bad_parameter l) h = tt
entered_kind at large_parameter h = tt
entered_kind at (repeated_entrypoint l) h = tt

any_found : {A : Type 0} (q : Found A) → FoundHas (λ a. Unit {0}) q
any_found (found x) = tt
any_found (fault l) = tt

parts_kind : (at : ℕ) (a s : Option Placed) (b : Option Body) (vs : List WrittenView) → FoundHas (λ o. IsWellFormed o.parameter) (of_parts at a s b vs)
parts_kind at (Some a) (Some s) (Some b) vs =
    found_then (λ e. IsWellFormed e.kind) (λ o. IsWellFormed o.parameter) (parameter_of a) _ (entered_kind a.location (parameter a.node) (parameter_kind a.node))
    (λ e h. found_then (λ t. Unit {0}) (λ o. IsWellFormed o.parameter) (typed_as storable s) _ (any_found (typed_as storable s))
    (λ t x. found_then (λ ws. Unit {0}) (λ o. IsWellFormed o.parameter) (typed_views vs) _ (any_found (typed_views vs)) (λ ws y. h)))
parts_kind at (Some a) (Some s) None vs = tt
parts_kind at (Some a) None b vs = tt
parts_kind at None s b vs = tt

outline_kind : (ts : Trees) → FoundHas (λ o. IsWellFormed o.parameter) (outline (seq ts))
outline_kind ts =
    found_then (λ c. Unit {0}) (λ o. IsWellFormed o.parameter) (with_sections no_contents (nodes_of.sections ts 1)) (of_contents 0)
    (any_found (with_sections no_contents (nodes_of.sections ts 1))) (λ c x. parts_kind 0 c.parameter c.storage c.code c.views)

-- ---- blocks

small_of : (small : Bool) (c : Context) (a r : Kind) (b : Body) → fault_of_body small c a r b ≡ None → small ≡ true
small_of true c a r b e = refl
small_of false c a r b e = absurd cc

within_limit : (a : Kind) → is_small a ≡ true → nodes a ≤ type_limit
within_limit a e = leb-true (nodes a) type_limit e

views_types : (n at : ℕ) (s : Kind) → IsWellFormed s → (vs : List TypedView) → AllTyped n vs → AllTried s vs → BlockTypes (view_blocks at s vs)
views_types n at s h [] g i = tt
views_types n at s h (v ∷ vs) g i =
    let small : is_small (pair v.input s) ≡ true = small_of (is_small (pair v.input s)) place.view (pair v.input s) v.output v.body i.0 in
    ((tt, (((g.0.input.1.0, h), within_limit (pair v.input s) small), tt)), views_types n at s h vs g.1 i.1)

code_small : (o : Outline) → code_fault o ≡ None → is_small (pair o.parameter o.storage) ≡ true
code_small o e =
    let small = small_of (is_small (pair o.parameter o.storage) && is_small (pair (list operation) o.storage)) (place.main o.entries)
    (pair o.parameter o.storage) (pair (list operation) o.storage) o.code e in
    (and_parts (is_small (pair o.parameter o.storage)) (is_small (pair (list operation) o.storage)) small).0

outline_types : (n at : ℕ) (o : Outline) → IsWellFormed o.parameter → EntriesAreTypes o.entries → OutlineGood n o → code_fault o ≡ None →
    AllTried o.storage o.views → BlockTypes (outline_blocks at o)
outline_types n at o h es g e i =
    ((es, (((h, g.storage.0), within_limit (pair o.parameter o.storage) (code_small o e)), tt)), views_types n at o.storage g.storage.0 o.views g.views i)

has : {A : Type 0} (P : A → Type 0) (q : Found A) (x : A) → q ≡ found x → FoundHas P q → P x
has P q x e h = subst (FoundHas P) e h

pub script_types : (at : ℕ) (ts : Trees) (s : Script) → script (seq ts) ≡ found s → BlockTypes (script_blocks at (seq ts))
script_types at ts s e =
    let o = outlined (seq ts) s e in
    let kind : IsWellFormed o.types.parameter = has (λ o. IsWellFormed o.parameter) (outline (seq ts)) o.types o.is (outline_kind ts) in
    let good = has (OutlineGood (size (seq ts))) (outline (seq ts)) o.types o.is (outline_good (seq ts)) in
    subst (λ q. BlockTypes (blocks_of.on_found q (outline_blocks at))) (sym o.is)
    (outline_types (size (seq ts)) at o.types kind (entries_are_types (seq ts) o.types o.is) good o.code (all_tried o.types.storage o.types.views o.views o.checked))
