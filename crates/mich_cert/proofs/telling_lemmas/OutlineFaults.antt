-- The first fault of a script's sections and types stands within the script.
use Rattle.std.proofs.Common.{◌≡◌, ℕ, zero, suc, ◌+◌, ◌<◌, ◌≤◌, ◌^◌, Bool, true, false, Option, Some, None, List, [], ◌∷◌, ◌++◌, sym, subst, arith}
use Rattle.std.specs.Prelude.{if◌then◌else◌, codes}
use Rattle.rules_text.specs.nodes.Tree.{Tree, int, str, bytes, prim, seq, Trees, none, more, size, sizes}
use Rattle.rules_text.specs.nodes.Primitives.{primitive_of_name}
use Rattle.rules_text.specs.declared.nodes.Primitive.{Primitive}
use Rattle.rules_text.specs.declared.nodes.Primitive.TheVariants as p
use Rattle.rules_data.specs.types.Kind.{Kind}
use Rattle.rules_data.specs.types.Attributes.{packable, storable}
use Rattle.rules_data.specs.types.Reading.{Reading, a_type, bad_type, too_large, type_at}
use Rattle.rules_data.specs.types.Entrypoints.{Parameter, a_parameter, bad_parameter, large_parameter, repeated_entrypoint, of_reading, parameter}
use Rattle.rules_code.specs.instructions.Arguments.{Found, found, fault, and_then, is_view_name, with_attribute}
use Rattle.rules_code.specs.typing.Nodes.{bodies, inner_bodies, outline}
use Rattle.rules_code.specs.typing.Nodes as nodes
use Rattle.rules_code.specs.typing.Scripts.{of_parameter, parameter_of, typed_as, typed_view, typed_views, of_parts}
use Rattle.rules_code.specs.typing.Sections.{Placed, Body, WrittenView, Content, parameter_section, storage_section, code_section, view_section, no_section, placed, content_of, content_at, Contents, no_contents, once, with_content, with_sections, view_named}
use Rattle.mich_outline.proofs.ForCallers.{reading_from, type_at_from}
use Rattle.mich_outline.proofs.Within.{ParameterWithin, parameter_within}

-- what is found is so, or the fault is below a location
abbrev Good : {A : Type 0} → ℕ → (A → Type 0) → Found A → Type 0
Good n P (found x) = P x
Good n P (fault l) = l < n

good_then : {A B : Type 0} (n : ℕ) (P : A → Type 0) (Q : B → Type 0) (x : Found A) (next : A → Found B) → Good n P x → ((a : A) → P a → Good n Q (next a)) →
    Good n Q (and_then x next)
good_then n P Q (found a) next h g = g a h
good_then n P Q (fault l) next h g = h

some_size : (t : Tree) → 1 ≤ size t
some_size (int n) = omega arith
some_size (str s) = omega arith
some_size (bytes b) = omega arith
some_size (prim name annots ts) = omega arith
some_size (seq ts) = omega arith

-- ---- types

abbrev ReadingWithin : ℕ → Reading → Type 0
ReadingWithin n (a_type a) = Unit {0}
ReadingWithin n (bad_type l) = l < n
ReadingWithin n too_large = Unit {0}

-- a type is read as that of a parameter is
as_parameter : (t : Tree) (r : Reading) → ParameterWithin (size t + 0 + 1) (of_reading [] t r) → ReadingWithin (1 + size t) r
as_parameter t (a_type a) h = tt
as_parameter t (bad_type l) h = omega (arith, h)
as_parameter t too_large h = tt

first_within : (t : Tree) → ReadingWithin (1 + size t) (type_at 1 t)
first_within t = as_parameter t (type_at 1 t) (parameter_within (prim (codes "parameter") [] (more t none)))

from_within : (k n : ℕ) (t : Tree) (r : Reading) → k + 1 + size t ≤ n → ReadingWithin (1 + size t) r → ReadingWithin n (reading_from k r)
from_within k n t (a_type a) h g = tt
from_within k n t (bad_type l) h g = omega (arith, h, g)
from_within k n t too_large h g = tt

-- a node that stands within, behind the first
abbrev IsPlaced : ℕ → Placed → Type 0
IsPlaced n s = (1 ≤ s.location) × (s.location + size s.node ≤ n)

module _ (n : ℕ) where
  reading_within : (at : ℕ) (t : Tree) → 1 ≤ at → at + size t ≤ n → ReadingWithin n (type_at at t)
  reading_within zero t h g = absurd (omega (arith, h))
  reading_within (suc k) t h g =
      let e : k + 1 ≡ suc k = omega arith in
      let w : k + 1 + size t ≤ n = omega (arith, g) in
      subst (λ m. ReadingWithin n (type_at m t)) e
      (subst (ReadingWithin n) (sym (type_at_from k 1 t)) (from_within k n t (type_at 1 t) w (first_within t)))

  attribute_within : (asked : Kind → Bool) (at : ℕ) (r : Reading) → at < n → ReadingWithin n r → Good n (λ a. Unit {0}) (with_attribute asked at r)
  attribute_within asked at (a_type a) h g = by (asked a)
    where
      by : (b : Bool) → Good n (λ (x : Kind). Unit {0}) (if b then found a else fault at)
      by true = tt
      by false = h
  attribute_within asked at (bad_type l) h g = g
  attribute_within asked at too_large h g = h

  typed_within : (asked : Kind → Bool) (s : Placed) → IsPlaced n s → Good n (λ a. Unit {0}) (typed_as asked s)
  typed_within asked s h =
      let one = some_size s.node in
      let k = h.1 in
      let here : s.location < n = omega (arith, one, k) in
      attribute_within asked s.location (type_at s.location s.node) here (reading_within s.location s.node h.0 h.1)

  entered_within : (s : Placed) (q : Parameter) → IsPlaced n s → ParameterWithin (size s.node) q → Good n (λ e. Unit {0}) (of_parameter s.location q)
  entered_within s (a_parameter a es) h g = tt
  entered_within s (bad_parameter l) h g = let k = h.1 in omega (arith, k, g)
  entered_within s large_parameter h g = let k = h.1 in omega (arith, k, g)
  entered_within s (repeated_entrypoint l) h g = let k = h.1 in omega (arith, k, g)

  -- ---- sections

  abbrev ViewIn : WrittenView → Type 0
  ViewIn v = IsPlaced n v.input × IsPlaced n v.output

  abbrev ContentIn : Content → Type 0
  ContentIn (parameter_section s) = IsPlaced n s
  ContentIn (storage_section s) = IsPlaced n s
  ContentIn (code_section b) = Unit {0}
  ContentIn (view_section v) = ViewIn v
  ContentIn no_section = Unit {0}

  abbrev PlacedIn : Option Placed → Type 0
  PlacedIn (Some s) = IsPlaced n s
  PlacedIn None = Unit {0}

  abbrev ViewsIn : List WrittenView → Type 0
  ViewsIn [] = Unit {0}
  ViewsIn (v ∷ vs) = ViewIn v × ViewsIn vs

  abbrev SectionsIn : Contents → Type 0
  SectionsIn c = (PlacedIn c.parameter × PlacedIn c.storage) × ViewsIn c.views

  view_in : (at : ℕ) (name : List ℕ) (u w : Tree) (b : Body) → 1 ≤ at → at + 2 + size u + size w ≤ n → (q : Bool) →
      ContentIn (if q then view_section record { name = name; input = placed (at + 2) u; output = placed (at + 2 + size u) w; body = b } else no_section)
  view_in at name u w b h g true = ((omega arith, omega (arith, g)), (omega arith, omega (arith, g)))
  view_in at name u w b h g false = tt

  named_in : (name : Option Primitive) (at : ℕ) (t : Tree) (args : Trees) → 1 ≤ at → at + size t ≤ n → at + 1 + sizes args ≤ n →
      ContentIn (content_of name at t args (bodies args (at + 1)))
  named_in (Some p.SectionParameter) at t (more u none) h g k = (h, g)
  named_in (Some p.SectionStorage) at t (more u none) h g k = (omega arith, omega (arith, k))
  named_in (Some p.SectionCode) at t (more (seq us) none) h g k = tt
  named_in (Some p.SectionView) at t (more (str name) (more u (more w (more (seq us) none)))) h g k =
      view_in at name u w _ h (omega (arith, k)) (is_view_name name)
  named_in _ at t _ h g k = tt

  section_in : (at : ℕ) (t : Tree) → 1 ≤ at → at + size t ≤ n → ContentIn (content_at at t (inner_bodies t at))
  section_in at (prim name annots args) h g = named_in (primitive_of_name name) at (prim name annots args) args h g (omega (arith, g))
  section_in at (int z) h g = tt
  section_in at (str z) h g = tt
  section_in at (bytes z) h g = tt
  section_in at (seq z) h g = tt

  last_in : (vs : List WrittenView) (v : WrittenView) → ViewsIn vs → ViewIn v → ViewsIn (vs ++ v ∷ [])
  last_in [] v h g = (g, tt)
  last_in (u ∷ us) v h g = (h.0, last_in us v h.1 g)

  once_in : {A : Type 0} (at : ℕ) (o : Option A) (c : Contents) → at < n → SectionsIn c → Good n SectionsIn (once at o c)
  once_in at None c l h = h
  once_in at (Some x) c l h = l

  content_in : (c : Contents) (at : ℕ) (x : Content) → at < n → SectionsIn c → ContentIn x → Good n SectionsIn (with_content c at x)
  content_in c at (parameter_section s) l h g = once_in at c.parameter (record c { parameter = Some s }) l ((g, h.0.1), h.1)
  content_in c at (storage_section s) l h g = once_in at c.storage (record c { storage = Some s }) l ((h.0.0, g), h.1)
  content_in c at (code_section b) l h g = once_in at c.code (record c { code = Some b }) l h
  content_in c at (view_section v) l h g = once_in at (view_named v.name c.views) (record c { views = c.views ++ v ∷ [] }) l (h.0, last_in c.views v h.1 g)
  content_in c at no_section l h g = l

  sections_in : (at : ℕ) (us : Trees) (c : Contents) → 1 ≤ at → at + sizes us ≤ n → SectionsIn c → Good n SectionsIn (with_sections c (nodes.sections us at))
  sections_in at none c h g i = i
  sections_in at (more u us) c h g i =
      let one = some_size u in
      let here : at < n = omega (arith, one, g) in
      let this : at + size u ≤ n = omega (arith, g) in
      let next : at + size u + sizes us ≤ n = omega (arith, g) in
      let further : 1 ≤ at + size u = omega (arith, h) in
      good_then n SectionsIn SectionsIn (with_content c at (content_at at u (inner_bodies u at))) _
      (content_in c at (content_at at u (inner_bodies u at)) here i (section_in at u h this)) (λ d j. sections_in (at + size u) us d further next j)

  -- ---- outlines

  view_within : (v : WrittenView) → ViewIn v → Good n (λ w. Unit {0}) (typed_view v)
  view_within v h =
      good_then n (λ a. Unit {0}) (λ w. Unit {0}) (typed_as packable v.input) _ (typed_within packable v.input h.0)
      (λ a x. good_then n (λ a. Unit {0}) (λ w. Unit {0}) (typed_as packable v.output) _ (typed_within packable v.output h.1) (λ b y. tt))

  views_within : (vs : List WrittenView) → ViewsIn vs → Good n (λ ws. Unit {0}) (typed_views vs)
  views_within [] h = tt
  views_within (v ∷ vs) h =
      good_then n (λ w. Unit {0}) (λ ws. Unit {0}) (typed_view v) _ (view_within v h.0)
      (λ w x. good_then n (λ ws. Unit {0}) (λ ws. Unit {0}) (typed_views vs) _ (views_within vs h.1) (λ ws y. tt))

  parts_within : (a s : Option Placed) (b : Option Body) (vs : List WrittenView) → 0 < n → PlacedIn a → PlacedIn s → ViewsIn vs → Good n (λ o. Unit {0}) (of_parts 0 a s b vs)
  parts_within (Some a) (Some s) (Some b) vs z h g k =
      good_then n (λ e. Unit {0}) (λ o. Unit {0}) (parameter_of a) _ (entered_within a (parameter a.node) h (parameter_within a.node))
      (λ e x. good_then n (λ t. Unit {0}) (λ o. Unit {0}) (typed_as storable s) _ (typed_within storable s g)
      (λ t y. good_then n (λ ws. Unit {0}) (λ o. Unit {0}) (typed_views vs) _ (views_within vs k) (λ ws i. tt)))
  parts_within (Some a) (Some s) None vs z h g k = z
  parts_within (Some a) None b vs z h g k = z
  parts_within None s b vs z h g k = z

within : (us : Trees) → Good (size (seq us)) (λ o. Unit {0}) (outline (seq us))
within us =
    let n : ℕ = size (seq us) in
    let inner : 1 + sizes us ≤ n = omega arith in
    let some : 0 < n = omega arith in
    good_then n (SectionsIn n) (λ o. Unit {0}) (with_sections no_contents (nodes.sections us 1)) _
    (sections_in n 1 us no_contents (omega arith) inner ((tt, tt), tt)) (λ c h. parts_within n c.parameter c.storage c.code c.views some h.0.0 h.0.1 h.1)

pub outline_fault : (t : Tree) (l : ℕ) → outline t ≡ fault l → l < size t
outline_fault (seq us) l e = subst (Good (size (seq us)) (λ o. Unit {0})) e (within us)
outline_fault (int n) l e = let h : 0 ≡ l = cc in omega (arith, h)
outline_fault (str s) l e = let h : 0 ≡ l = cc in omega (arith, h)
outline_fault (bytes b) l e = let h : 0 ≡ l = cc in omega (arith, h)
outline_fault (prim name annots ts) l e = let h : 0 ≡ l = cc in omega (arith, h)

pub fault_fits : (at l : ℕ) (t : Tree) → at + size t < 2 ^ 32 → outline t ≡ fault l → at + l < 2 ^ 32
fault_fits at l t h e = let k = outline_fault t l e in omega (arith, h, k)
