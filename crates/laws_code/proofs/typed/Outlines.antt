-- What a script that is accepted tells of its entrypoints.
use Rattle.std.proofs.Common.{◌≡◌, ℕ, ◌+◌, Bool, true, false, List, [], ◌∷◌, ◌++◌, Option, Some, None, refl, sym, ap, ◌∙◌, subst}
use Rattle.std.specs.Prelude.{if◌then◌else◌, codes}
use Rattle.std.specs.Str.{bytes_eq}
use Rattle.std.proofs.lemmas.Bool.{and_parts}
use Rattle.rules_text.specs.nodes.Tree.{Tree, int, str, bytes, prim, seq, Trees, none, more, size}
use Rattle.rules_data.specs.forms.Spelling.{default_name, is_entrypoint}
use Rattle.rules_data.specs.types.Kind.{Kind}
use Rattle.rules_data.specs.types.Kind as k
use Rattle.rules_data.specs.types.Attributes.{passable, storable}
use Rattle.rules_data.specs.types.Reading.{typed, Reading, a_type, bad_type, too_large, type_at}
use Rattle.rules_data.specs.types.Entrypoints.{Entry, Branch, field_name, branch, in_order, below, find_entry, Entries, entries, bad_name, repeated, then_entries, with_new, with_named, with_branch, with_branches, root_by, or_default, with_default, entries_of, Parameter, a_parameter, bad_parameter, large_parameter, repeated_entrypoint, of_entries, of_reading, of_section, parameter}
use Rattle.rules_code.specs.instructions.Context.{Context}
use Rattle.rules_code.specs.instructions.Context as place
use Rattle.rules_code.specs.instructions.Arguments.{Found, found, fault, and_then}
use Rattle.rules_code.specs.typing.Sections.{Placed, Body, WrittenView, no_contents, with_sections}
use Rattle.rules_code.specs.typing.Scripts.{Script, View, of_parameter, parameter_of, typed_as, typed_views, Outline, of_parts, of_contents, unless_fault, code_fault, with_views, a_script, with_bodies}
use Rattle.rules_code.specs.typing.Nodes.{outline, script, sections}
use Rattle.rules_code.specs.evaluation.Surroundings.{Surroundings}
use Rattle.laws_data.specs.types.Laws.{IsWellFormed}
use Rattle.laws_data.proofs.types_lemmas.ForCallers.{read_well, within}
use Rattle.laws_code.specs.evaluation.Laws.{IsGood, IsOwnContext}
use Rattle.laws_code.proofs.typed.Typings.{EntriesAreTypes, HasTypes}
use Rattle.laws_code.proofs.typed.Carried.{FoundHas, found_then}

-- ---- an accepted script and its outline

pub record Outlined (t : Tree) (s : Script) : Type 0 where
  pub types : Outline
  pub is : outline t ≡ found types
  pub code : code_fault types ≡ None
  pub views : List View
  pub checked : with_views types.storage types.views ≡ found views
  pub whole : s ≡ a_script types views

same_found : {A : Type 0} (x y : A) → found x ≡ found y → x ≡ y
same_found x y h = cc

by_views : (t : Tree) (o : Outline) (s : Script) → outline t ≡ found o → code_fault o ≡ None → (q : Found (List View)) →
    with_views o.storage o.views ≡ q → and_then q (λ vs. found (a_script o vs)) ≡ found s → Outlined t s
by_views t o s e f (found vs) g h = record {
  types = o;
  is = e;
  code = f;
  views = vs;
  checked = g;
  whole = sym
      (same_found (a_script o vs) s h);
}
by_views t o s e f (fault l) g h = absurd cc

by_code : (t : Tree) (o : Outline) (s : Script) → outline t ≡ found o → (q : Option ℕ) → code_fault o ≡ q →
    unless_fault q (and_then (with_views o.storage o.views) (λ vs. found (a_script o vs))) ≡ found s → Outlined t s
by_code t o s e (Some l) f h = absurd cc
by_code t o s e None f h = by_views t o s e f (with_views o.storage o.views) refl h

by_outline : (t : Tree) (s : Script) (q : Found Outline) → outline t ≡ q → and_then q with_bodies ≡ found s → Outlined t s
by_outline t s (found o) e h = by_code t o s e (code_fault o) refl h
by_outline t s (fault l) e h = absurd cc

pub outlined : (t : Tree) (s : Script) → script t ≡ found s → Outlined t s
outlined (seq ts) s h = by_outline (seq ts) s (outline (seq ts)) refl h
outlined (int n) s h = absurd cc
outlined (str n) s h = absurd cc
outlined (bytes n) s h = absurd cc
outlined (prim name annots args) s h = absurd cc

-- ---- entrypoints

abbrev GoodKind : Kind → Type 0
GoodKind a = (passable a ≡ true) × IsWellFormed a

abbrev GoodBranches : List Branch → Type 0
GoodBranches [] = Unit {0}
GoodBranches (b ∷ bs) = GoodKind b.kind × GoodBranches bs

branches_append : (bs cs : List Branch) → GoodBranches bs → GoodBranches cs → GoodBranches (bs ++ cs)
branches_append [] cs h g = g
branches_append (b ∷ bs) cs h g = (h.0, branches_append bs cs h.1 g)

in_order_good : (bs cs : List Branch) → GoodBranches bs → GoodBranches cs → GoodBranches (in_order bs cs)
unfolding in_order
in_order_good bs cs h g = branches_append bs cs h g

below_good : (a : Kind) (at : ℕ) (t : Tree) (path : List Bool) → GoodKind a → GoodBranches (below a at t path)
below_good (k.or a b) at (prim name annots (more l (more r none))) path h =
    let es = and_parts (passable a) (passable b) h.0 in
    in_order_good (branch (at + 1) l (path ++ false ∷ []) a ∷ below a (at + 1) l (path ++ false ∷ []))
    (branch (at + 1 + size l) r (path ++ true ∷ []) b ∷ below b (at + 1 + size l) r (path ++ true ∷ []))
    ((es.0, h.1.0), below_good a (at + 1) l (path ++ false ∷ []) (es.0, h.1.0))
    ((es.1, h.1.1), below_good b (at + 1 + size l) r (path ++ true ∷ []) (es.1, h.1.1))
below_good (k.or a b) at _ path h = tt
below_good _ at t path h = tt

abbrev GoodEntries : Entries → Type 0
GoodEntries (entries es) = EntriesAreTypes es
GoodEntries (bad_name l) = Unit {0}
GoodEntries (repeated l) = Unit {0}

entries_append : (es : List Entry) (e : Entry) → EntriesAreTypes es → GoodKind e.kind → EntriesAreTypes (es ++ e ∷ [])
entries_append [] e h g = (g.0, g.1, tt)
entries_append (d ∷ es) e h g = (h.0, h.1, entries_append es e h.2 g)

new_good : (o : Option Entry) (es : List Entry) (at : ℕ) (name : List ℕ) (path : List Bool) (a : Kind) → EntriesAreTypes es →
    GoodKind a → GoodEntries (with_new o es at name path a)
new_good None es at name path a h g = entries_append es (record { name = name; path = path; kind = a }) h g
new_good (Some e) es at name path a h g = tt

name_good : (b : Bool) (es : List Entry) (at : ℕ) (name : List ℕ) (path : List Bool) (a : Kind) → EntriesAreTypes es →
    GoodKind a → GoodEntries (if b then with_new (find_entry name es) es at name path a else bad_name at)
name_good true es at name path a h g = new_good (find_entry name es) es at name path a h g
name_good false es at name path a h g = tt

branch_good : (es : List Entry) (b : Branch) (o : Option (List ℕ)) → EntriesAreTypes es → GoodKind b.kind →
    GoodEntries (with_named es b.location o b.path b.kind)
branch_good es b None h g = h
branch_good es b (Some name) h g = name_good (is_entrypoint name) es b.location name b.path b.kind h g

then_good : (x : Entries) (next : List Entry → Entries) → GoodEntries x →
    ((es : List Entry) → EntriesAreTypes es → GoodEntries (next es)) → GoodEntries (then_entries x next)
then_good (entries es) next h g = g es h
then_good (bad_name l) next h g = tt
then_good (repeated l) next h g = tt

branches_good : (es : List Entry) (bs : List Branch) → EntriesAreTypes es → GoodBranches bs → GoodEntries (with_branches es bs)
branches_good es [] h g = h
branches_good es (b ∷ bs) h g = then_good (with_branch es b) (λ ds. with_branches ds bs) (branch_good es b b.name h g.0)
    (λ ds i. branches_good ds bs i g.1)

default_good : (o : Option Entry) (a : Kind) (es : List Entry) → EntriesAreTypes es → GoodKind a →
    EntriesAreTypes (or_default o a es)
default_good None a es h g = entries_append es (record { name = default_name; path = []; kind = a }) h g
default_good (Some e) a es h g = h

root_good : (o : Option (List ℕ)) (t : Tree) (a : Kind) → GoodKind a → GoodKind (root_by o t a).kind
root_good (Some name) t a h = h
root_good None t a h = h

entries_good : (annots : List (List ℕ)) (t : Tree) (a : Kind) → GoodKind a → GoodEntries (entries_of annots t a)
entries_good annots t a h =
    then_good (with_branches [] (root_by (field_name annots) t a ∷ below a 1 t [])) (with_default a)
    (branches_good [] (root_by (field_name annots) t a ∷ below a 1 t []) tt
    (root_good (field_name annots) t a h, below_good a 1 t [] h))
    (λ es i. default_good (find_entry default_name es) a es i h)

abbrev GoodParameter : Parameter → Type 0
GoodParameter (a_parameter a es) = EntriesAreTypes es
GoodParameter (bad_parameter l) = Unit {0}
GoodParameter large_parameter = Unit {0}
GoodParameter (repeated_entrypoint l) = Unit {0}

of_entries_good : (a : Kind) (x : Entries) → GoodEntries x → GoodParameter (of_entries a x)
of_entries_good a (entries es) h = h
of_entries_good a (bad_name l) h = tt
of_entries_good a (repeated l) h = tt

reading_good : (annots : List (List ℕ)) (t : Tree) (r : Reading) → ((a : Kind) → r ≡ a_type a → IsWellFormed a) →
    GoodParameter (of_reading annots t r)
reading_good annots t (a_type a) h = by_test (passable a) refl
  where
    by_test : (b : Bool) → passable a ≡ b → GoodParameter (if b then of_entries a (entries_of annots t a) else bad_parameter 1)
    by_test true e = of_entries_good a (entries_of annots t a) (entries_good annots t a (e, h a refl))
    by_test false e = tt
reading_good annots t (bad_type l) h = tt
reading_good annots t too_large h = tt

section_good : (b : Bool) (annots : List (List ℕ)) (ts : Trees) → GoodParameter (of_section b annots ts)
section_good true annots (more t none) = reading_good annots t (type_at 1 t) (λ a e. read_well 1 t a (within (typed 1 t) a e).0)
section_good true annots none = tt
section_good true annots (more t (more u us)) = tt
section_good false annots ts = tt

parameter_good : (t : Tree) → GoodParameter (parameter t)
parameter_good (prim name annots args) = section_good (bytes_eq name (codes "parameter")) annots args
parameter_good (int n) = tt
parameter_good (str s) = tt
parameter_good (bytes b) = tt
parameter_good (seq ts) = tt

entered_good : (at : ℕ) (x : Parameter) → GoodParameter x → FoundHas (λ e. EntriesAreTypes e.entries) (of_parameter at x)
entered_good at (a_parameter a es) h = h
entered_good at (bad_parameter l) h = tt
entered_good at large_parameter h = tt
entered_good at (repeated_entrypoint l) h = tt

any_found : {A : Type 0} (x : Found A) → FoundHas (λ a. Unit {0}) x
any_found (found a) = tt
any_found (fault l) = tt

parts_good : (at : ℕ) (a s : Option Placed) (b : Option Body) (vs : List WrittenView) →
    FoundHas (λ o. EntriesAreTypes o.entries) (of_parts at a s b vs)
parts_good at (Some a) (Some s) (Some b) vs =
    found_then (λ e. EntriesAreTypes e.entries) (λ o. EntriesAreTypes o.entries) (parameter_of a) _
    (entered_good a.location (parameter a.node) (parameter_good a.node))
    (λ e h. found_then (λ t. Unit {0}) (λ o. EntriesAreTypes o.entries) (typed_as storable s) _ (any_found (typed_as storable s))
    (λ t _. found_then (λ ws. Unit {0}) (λ o. EntriesAreTypes o.entries) (typed_views vs) _ (any_found (typed_views vs))
    (λ ws _. h)))
parts_good at (Some a) (Some s) None vs = tt
parts_good at (Some a) None b vs = tt
parts_good at None s b vs = tt

outline_good : (t : Tree) → FoundHas (λ o. EntriesAreTypes o.entries) (outline t)
outline_good (seq ts) =
    found_then (λ c. Unit {0}) (λ o. EntriesAreTypes o.entries) (with_sections no_contents (sections ts 1)) (of_contents 0)
    (any_found (with_sections no_contents (sections ts 1))) (λ c _. parts_good 0 c.parameter c.storage c.code c.views)
outline_good (int n) = tt
outline_good (str s) = tt
outline_good (bytes b) = tt
outline_good (prim name annots args) = tt

pub entries_are_types : (t : Tree) (o : Outline) → outline t ≡ found o → EntriesAreTypes o.entries
entries_are_types t o e = subst (FoundHas (λ o. EntriesAreTypes o.entries)) e (outline_good t)

-- the code of a contract stands in a context whose entrypoints are types
pub contexts : (e : Surroundings) → IsGood e → HasTypes e.context
contexts e g = by_context e.context g.own.2
  where
    by_context : (c : Context) → IsOwnContext c g.own.0 → HasTypes c
    by_context (place.main es) h =
        let o : Outlined g.own.0.script h.0 = outlined g.own.0.script h.0 h.1 in
        subst EntriesAreTypes (sym (h.2 ∙ ap (λ s. s.entries) o.whole)) (entries_are_types g.own.0.script o.types o.is)
    by_context place.view h = tt
    by_context place.lambda h = tt
