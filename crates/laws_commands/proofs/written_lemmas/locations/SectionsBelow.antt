-- The faults of the sections of a script, and of its types.
use Rattle.std.proofs.Common.{◌<◌, ◌≤◌, ◌+◌, ℕ, Bool, true, false, cond, ◌&&◌, Option, Some, None, List, [], ◌∷◌, ◌++◌, arith}
use Rattle.std.specs.Prelude.{codes, if◌then◌else◌}
use Rattle.std.specs.Str.{bytes_eq}
use Rattle.std.specs.List.{AllByRecursion}
use Rattle.rules_text.specs.nodes.Tree.{Tree, int, str, bytes, prim, seq, Trees, none, more, size, sizes}
use Rattle.rules_text.specs.declared.nodes.Primitive.{Primitive}
use Rattle.rules_text.specs.declared.nodes.Primitive.TheVariants as p
use Rattle.rules_data.specs.forms.Spelling.{is_entrypoint}
use Rattle.rules_data.specs.types.Kind.{Kind}
use Rattle.rules_data.specs.types.Kind as k
use Rattle.rules_data.specs.types.Attributes.{passable, packable, storable}
use Rattle.rules_data.specs.types.Reading.{Reading, a_type, bad_type, too_large, type_at}
use Rattle.rules_data.specs.types.Entrypoints.{field_name, Entry, Branch, branch, in_order, below, find_entry, Entries, entries, bad_name, repeated, then_entries, with_new, with_named, with_branch, with_branches, root_by, with_default, entries_of, Parameter, a_parameter, bad_parameter, large_parameter, repeated_entrypoint, of_entries, of_reading, of_section, parameter}
use Rattle.rules_code.specs.instructions.Context.{Context}
use Rattle.rules_code.specs.instructions.Context as place
use Rattle.rules_code.specs.instructions.Arguments.{Found, found, fault, and_then, is_view_name}
use Rattle.rules_code.specs.typing.Typing.{Typer}
use Rattle.rules_code.specs.typing.Sections.{Section, Placed, Body, WrittenView, Content, parameter_section, storage_section, code_section, view_section, no_section, placed, a_body, view_content, content_of, content_at, Contents, no_contents, once, with_content, with_sections}
use Rattle.rules_code.specs.typing.Sections as sections
use Rattle.rules_code.specs.typing.Scripts.{of_parameter, parameter_of, typed_as, TypedView, typed_view, typed_views, Outline, of_parts, of_contents, outline_of, unless_fault, is_small, fault_of_body, code_fault, view_fault, a_view, with_views, a_script, with_bodies}
use Rattle.laws_commands.proofs.written_lemmas.locations.Below.{FoundBelow, size_some, ReadingBelow, reading_below, type_below, then_below}
use Rattle.laws_commands.proofs.written_lemmas.locations.TypingsBelow.{TyperBelow, FaultBelow, body_fault_below}
use Rattle.laws_commands.proofs.common.Lists.{all_append, OnSome}

-- what is found has P, and a fault is below
abbrev pub FoundIs : {A : Type 0} → (A → Type 0) → ℕ → Found A → Type 0
FoundIs P n (found x) = P x
FoundIs P n (fault l) = l < n

pub then_is : {A B : Type 0} (P : A → Type 0) (Q : B → Type 0) (n : ℕ) (x : Found A) (next : A → Found B) → FoundIs P n x →
    ((y : A) → P y → FoundIs Q n (next y)) →
    FoundIs Q n (and_then x next)
then_is P Q n (found y) next h g = g y h
then_is P Q n (fault l) next h g = h

any_is : {A : Type 0} (n : ℕ) (x : Found A) → FoundBelow n x → FoundIs (λ a. Unit {0}) n x
any_is n (found x) h = tt
any_is n (fault l) h = h

-- ---- entrypoints

abbrev BranchBelow : ℕ → Branch → Type 0
BranchBelow n b = b.location < n

in_order_below : (n : ℕ) (bs cs : List Branch) → AllByRecursion (BranchBelow n) bs → AllByRecursion (BranchBelow n) cs →
    AllByRecursion (BranchBelow n) (in_order bs cs)
unfolding in_order
in_order_below n bs cs h g = all_append (BranchBelow n) bs cs h g

below_below : (n : ℕ) (a : Kind) (at : ℕ) (t : Tree) (path : List Bool) → at + size t ≤ n →
    AllByRecursion (BranchBelow n) (below a at t path)
below_below n (k.or a b) at (prim name annots (more l (more r none))) path h =
    let s = size_some l in
    let u = size_some r in
    in_order_below n (branch (at + 1) l (path ++ false ∷ []) a ∷ below a (at + 1) l (path ++ false ∷ []))
    (branch (at + 1 + size l) r (path ++ true ∷ []) b ∷ below b (at + 1 + size l) r (path ++ true ∷ []))
    (omega (arith, h, s), below_below n a (at + 1) l (path ++ false ∷ []) (omega (arith, h)))
    (omega (arith, h, u), below_below n b (at + 1 + size l) r (path ++ true ∷ []) (omega (arith, h)))
below_below n (k.or a b) at (prim name annots none) path h = tt
below_below n (k.or a b) at (prim name annots (more l none)) path h = tt
below_below n (k.or a b) at (prim name annots (more l (more r (more u ts)))) path h = tt
below_below n (k.or a b) at (int z) path h = tt
below_below n (k.or a b) at (str z) path h = tt
below_below n (k.or a b) at (bytes z) path h = tt
below_below n (k.or a b) at (seq z) path h = tt
below_below n _ at t path h = tt

abbrev EntriesBelow : ℕ → Entries → Type 0
EntriesBelow n (entries es) = Unit {0}
EntriesBelow n (bad_name l) = l < n
EntriesBelow n (repeated l) = l < n

branch_below : (n : ℕ) (es : List Entry) (b : Branch) → b.location < n → EntriesBelow n (with_branch es b)
branch_below n es b h = named b.name
  where
    new : (o : Option Entry) (name : List ℕ) → EntriesBelow n (with_new o es b.location name b.path b.kind)
    new None name = tt
    new (Some e) name = h

    checked : (name : List ℕ) (t : Bool) → EntriesBelow n
        (if t then with_new (find_entry name es) es b.location name b.path b.kind else bad_name b.location)
    checked name true = new (find_entry name es) name
    checked name false = h

    named : (o : Option (List ℕ)) → EntriesBelow n (with_named es b.location o b.path b.kind)
    named None = tt
    named (Some name) = checked name (is_entrypoint name)

branches_below : (n : ℕ) (es : List Entry) (bs : List Branch) → AllByRecursion (BranchBelow n) bs → EntriesBelow n (with_branches es bs)
branches_below n es [] h = tt
branches_below n es (b ∷ bs) h = by (with_branch es b) (branch_below n es b h.0) (λ more. branches_below n more bs h.1)
  where
    by : (r : Entries) → EntriesBelow n r → ((more : List Entry) → EntriesBelow n (with_branches more bs)) →
        EntriesBelow n (then_entries r (λ more. with_branches more bs))
    by (entries es) g rest = rest es
    by (bad_name l) g rest = g
    by (repeated l) g rest = g

entries_below : (n : ℕ) (annots : List (List ℕ)) (t : Tree) (a : Kind) → 1 + size t ≤ n → EntriesBelow n (entries_of annots t a)
entries_below n annots t a h = by (with_branches [] (root_by (field_name annots) t a ∷ below a 1 t []))
    (branches_below n [] (root_by (field_name annots) t a ∷ below a 1 t [])
    (root (field_name annots), below_below n a 1 t [] h))
  where
    root : (o : Option (List ℕ)) → (root_by o t a).location < n
    root (Some name) = omega (arith, h)
    root None = let s = size_some t in omega (arith, h, s)

    by : (r : Entries) → EntriesBelow n r → EntriesBelow n (then_entries r (with_default a))
    by (entries es) g = tt
    by (bad_name l) g = g
    by (repeated l) g = g

abbrev ParameterBelow : ℕ → Parameter → Type 0
ParameterBelow n (a_parameter a es) = Unit {0}
ParameterBelow n (bad_parameter l) = l < n
ParameterBelow n large_parameter = 1 < n
ParameterBelow n (repeated_entrypoint l) = l < n

of_section_below : (n : ℕ) (b : Bool) (annots : List (List ℕ)) (ts : Trees) → 1 + sizes ts ≤ n → ParameterBelow n (of_section b annots ts)
of_section_below n true annots (more t none) h = by (type_at 1 t) (reading_below t 1 n (omega (arith, h)))
  where
    more_than : 1 < n
    more_than = let s = size_some t in omega (arith, h, s)

    of_entries_below : (a : Kind) (e : Entries) → EntriesBelow n e → ParameterBelow n (of_entries a e)
    of_entries_below a (entries es) g = tt
    of_entries_below a (bad_name l) g = g
    of_entries_below a (repeated l) g = g

    asked : (a : Kind) (q : Bool) → ParameterBelow n (if q then of_entries a (entries_of annots t a) else bad_parameter 1)
    asked a true = of_entries_below a (entries_of annots t a) (entries_below n annots t a (omega (arith, h)))
    asked a false = more_than

    by : (r : Reading) → ReadingBelow n r → ParameterBelow n (of_reading annots t r)
    by (a_type a) g = asked a (passable a)
    by (bad_type l) g = g
    by too_large g = more_than
of_section_below n true annots none h = omega (arith, h)
of_section_below n true annots (more t (more u us)) h = omega (arith, h)
of_section_below n false annots ts h = omega (arith, h)

parameter_below : (t : Tree) → ParameterBelow (size t) (parameter t)
parameter_below (prim name annots ts) = of_section_below (sizes ts + 1) (bytes_eq name (codes "parameter")) annots ts (omega arith)
parameter_below (int z) = omega arith
parameter_below (str z) = omega arith
parameter_below (bytes z) = omega arith
parameter_below (seq ts) = omega arith

-- ---- sections

abbrev pub PlacedBelow : ℕ → Placed → Type 0
PlacedBelow n s = s.location + size s.node ≤ n

abbrev pub BodyBelow : ℕ → Body → Type 0
BodyBelow n b = (b.location < n) × TyperBelow n b.typing

abbrev WrittenBelow : ℕ → WrittenView → Type 0
WrittenBelow n w = PlacedBelow n w.input × PlacedBelow n w.output × BodyBelow n w.body

abbrev pub ContentBelow : ℕ → Content → Type 0
ContentBelow n (parameter_section s) = PlacedBelow n s
ContentBelow n (storage_section s) = PlacedBelow n s
ContentBelow n (code_section b) = BodyBelow n b
ContentBelow n (view_section w) = WrittenBelow n w
ContentBelow n no_section = Unit {0}

record ContentsBelow (n : ℕ) (c : Contents) : Type 0 where
  parameter : OnSome (PlacedBelow n) c.parameter
  storage : OnSome (PlacedBelow n) c.storage
  code : OnSome (BodyBelow n) c.code
  views : AllByRecursion (WrittenBelow n) c.views

once_is : {A : Type 0} (n at : ℕ) (o : Option A) (c : Contents) → at < n → ContentsBelow n c → FoundIs (ContentsBelow n) n (once at o c)
once_is n at None c l h = h
once_is n at (Some x) c l h = l

with_below : (n : ℕ) (c : Contents) (at : ℕ) (x : Content) → at < n → ContentsBelow n c → ContentBelow n x →
    FoundIs (ContentsBelow n) n (with_content c at x)
with_below n c at (parameter_section s) l h g =
    once_is n at c.parameter (record c { parameter = Some s }) l (record {
      parameter = g;
      storage = h.storage;
      code = h.code;
      views = h.views;
    })
with_below n c at (storage_section s) l h g =
    once_is n at c.storage (record c { storage = Some s }) l (record {
      parameter = h.parameter;
      storage = g;
      code = h.code;
      views = h.views;
    })
with_below n c at (code_section b) l h g =
    once_is n at c.code (record c { code = Some b }) l (record { parameter = h.parameter; storage = h.storage; code = g; views = h.views })
with_below n c at (view_section w) l h g =
    once_is n at (sections.view_named w.name c.views) (record c { views = c.views ++ w ∷ [] }) l
    (record {
      parameter = h.parameter;
      storage = h.storage;
      code = h.code;
      views = all_append (WrittenBelow n) c.views (w ∷ []) h.views (
        g,
        tt,
      );
    })
with_below n c at no_section l h g = l

abbrev pub SectionBelow : ℕ → Section → Type 0
SectionBelow n s = (s.location < n) × ContentBelow n (content_at s.location s.node s.arguments)

sections_below : (n : ℕ) (c : Contents) (ss : List Section) → ContentsBelow n c → AllByRecursion (SectionBelow n) ss →
    FoundIs (ContentsBelow n) n (with_sections c ss)
sections_below n c [] h g = h
sections_below n c (s ∷ ss) h g =
    then_is (ContentsBelow n) (ContentsBelow n) n (with_content c s.location (content_at s.location s.node s.arguments))
    (λ d. with_sections d ss)
    (with_below n c s.location (content_at s.location s.node s.arguments) g.0.0 h g.0.1) (λ d i. sections_below n d ss i g.1)

view_below : (n at : ℕ) (name : List ℕ) (u w b : Tree) (typing : Typer) → at + 2 + size u + size w < n → TyperBelow n typing →
    ContentBelow n (view_content at name u w b typing)
view_below n at name u w b typing h t = by (is_view_name name)
  where
    by : (q : Bool) → ContentBelow n (cond q (view_section record {
      name = name;
      input = placed (at + 2) u;
      output = placed (at + 2 + size u) w;
      body = a_body (at + 2 + size u + size w) b typing;
    }) no_section)
    by true = (omega (arith, h), omega (arith, h), (h, t))
    by false = tt

-- by the typings of the arguments
pub content_below : (n : ℕ) (name : Option Primitive) (at : ℕ) (t : Tree) (args : Trees) (typings : List Typer) → at + size t ≤ n →
    at + 1 + sizes args ≤ n →
    AllByRecursion (TyperBelow n) typings → ContentBelow n (content_of name at t args typings)
content_below n (Some p.SectionParameter) at t (more u none) bs h g q = h
content_below n (Some p.SectionStorage) at t (more u none) bs h g q = omega (arith, g)
content_below n (Some p.SectionCode) at t (more (seq ts) none) (b ∷ []) h g q = (omega (arith, g), q.0)
content_below n (Some p.SectionView) at t (more (str name) (more u (more w (more (seq ts) none)))) (m ∷ i ∷ o ∷ b ∷ []) h g q =
    view_below n at name u w (seq ts) b (omega (arith, g)) q.1.1.1.0
content_below n _ at t _ _ h g q = tt

-- ---- types

abbrev pub TypedBelow : ℕ → TypedView → Type 0
TypedBelow n w = BodyBelow n w.body

pub record OutlineBelow (n : ℕ) (o : Outline) : Type 0 where
  code : BodyBelow n o.code
  views : AllByRecursion (TypedBelow n) o.views

entered_below : (n : ℕ) (s : Placed) → PlacedBelow n s → FoundBelow n (parameter_of s)
entered_below n s h = by (parameter s.node) (parameter_below s.node)
  where
    by : (q : Parameter) → ParameterBelow (size s.node) q → FoundBelow n (of_parameter s.location q)
    by (a_parameter a es) g = tt
    by (bad_parameter l) g = omega (arith, h, g)
    by large_parameter g = omega (arith, h, g)
    by (repeated_entrypoint l) g = omega (arith, h, g)

typed_below : (n : ℕ) (asked : Kind → Bool) (s : Placed) → PlacedBelow n s → FoundBelow n (typed_as asked s)
typed_below n asked s h = type_below asked s.node s.location n h

view_typed : (n : ℕ) (w : WrittenView) → WrittenBelow n w → FoundIs (TypedBelow n) n (typed_view w)
view_typed n w h =
    then_is (λ a. Unit {0}) (TypedBelow n) n (typed_as packable w.input) _
    (any_is n (typed_as packable w.input) (typed_below n packable w.input h.0)) (λ a i.
    then_is (λ a. Unit {0}) (TypedBelow n) n (typed_as packable w.output) _
    (any_is n (typed_as packable w.output) (typed_below n packable w.output h.1)) (λ b j. h.2))

views_typed : (n : ℕ) (ws : List WrittenView) → AllByRecursion (WrittenBelow n) ws → FoundIs (AllByRecursion (TypedBelow n)) n
    (typed_views ws)
views_typed n [] h = tt
views_typed n (w ∷ ws) h =
    then_is (TypedBelow n) (AllByRecursion (TypedBelow n)) n (typed_view w) _ (view_typed n w h.0) (λ u i.
    then_is (AllByRecursion (TypedBelow n)) (AllByRecursion (TypedBelow n)) n (typed_views ws) (λ us. found (u ∷ us)) (views_typed n ws h.1)
    (λ us j. (i, j)))

parts_below : (n at : ℕ) (a s : Option Placed) (b : Option Body) (ws : List WrittenView) → at < n → OnSome (PlacedBelow n) a →
    OnSome (PlacedBelow n) s → OnSome (BodyBelow n) b →
    AllByRecursion (WrittenBelow n) ws → FoundIs (OutlineBelow n) n (of_parts at a s b ws)
parts_below n at (Some a) (Some s) (Some b) ws l f g h i =
    then_is (λ e. Unit {0}) (OutlineBelow n) n (parameter_of a) _ (any_is n (parameter_of a) (entered_below n a f)) (λ e q.
    then_is (λ e. Unit {0}) (OutlineBelow n) n (typed_as storable s) _ (any_is n (typed_as storable s) (typed_below n storable s g)) (λ t r.
    then_is (AllByRecursion (TypedBelow n)) (OutlineBelow n) n (typed_views ws) _ (views_typed n ws i) (λ us j. record {
      code = h;
      views = j;
    })))
parts_below n at (Some a) (Some s) None ws l f g h i = l
parts_below n at (Some a) None b ws l f g h i = l
parts_below n at None s b ws l f g h i = l

pub outline_below : (n at : ℕ) (ss : List Section) → at < n → AllByRecursion (SectionBelow n) ss →
    FoundIs (OutlineBelow n) n (outline_of at ss)
outline_below n at ss l h =
    then_is (ContentsBelow n) (OutlineBelow n) n (with_sections no_contents ss) (of_contents at)
    (sections_below n no_contents ss (record { parameter = tt; storage = tt; code = tt; views = tt }) h)
    (λ c i. parts_below n at c.parameter c.storage c.code c.views l i.parameter i.storage i.code i.views)

-- ---- bodies

body_below : (n : ℕ) (small : Bool) (c : Context) (a r : Kind) (b : Body) → BodyBelow n b → FaultBelow n (fault_of_body small c a r b)
body_below n true c a r b h = body_fault_below n b.location (b.typing c (a ∷ [])) r h.0 (h.1 c (a ∷ []))
body_below n false c a r b h = h.0

unless_below : {A : Type 0} (n : ℕ) (o : Option ℕ) (x : Found A) → FaultBelow n o → FoundBelow n x → FoundBelow n (unless_fault o x)
unless_below n (Some l) x h g = h
unless_below n None x h g = g

with_views_below : (n : ℕ) (s : Kind) (ws : List TypedView) → AllByRecursion (TypedBelow n) ws → FoundBelow n (with_views s ws)
with_views_below n s [] h = tt
with_views_below n s (w ∷ ws) h =
    unless_below n (view_fault s w) _ (body_below n (is_small (k.pair w.input s)) place.view (k.pair w.input s) w.output w.body h.0)
    (then_below n (with_views s ws) (λ us. found (a_view w ∷ us)) (with_views_below n s ws h.1) (λ us. tt))

pub bodies_below : (n : ℕ) (o : Outline) → OutlineBelow n o → FoundBelow n (with_bodies o)
bodies_below n o h =
    unless_below n (code_fault o) _
    (body_below n (is_small (k.pair o.parameter o.storage) && is_small (k.pair (k.list k.operation) o.storage)) (place.main o.entries)
    (k.pair o.parameter o.storage)
    (k.pair (k.list k.operation) o.storage) o.code h.code)
    (then_below n (with_views o.storage o.views) (λ vs. found (a_script o vs))
    (with_views_below n o.storage o.views h.views) (λ vs. tt))
