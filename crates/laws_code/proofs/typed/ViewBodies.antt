-- The bodies of the views of an accepted script are typed.
use Rattle.std.proofs.Common.{◌≡◌, ℕ, ◌+◌, ◌≤◌, Bool, true, false, List, [], ◌∷◌, ◌++◌, Option, Some, None, refl, arith}
use Rattle.std.specs.Prelude.{if◌then◌else◌}
use Rattle.rules_text.specs.nodes.Tree.{Tree, int, str, bytes, prim, seq, Trees, none, more, size, sizes}
use Rattle.rules_text.specs.nodes.Primitives.{primitive_of_name}
use Rattle.rules_text.specs.declared.nodes.Primitive.{Primitive}
use Rattle.rules_text.specs.declared.nodes.Primitive.TheVariants as p
use Rattle.rules_data.specs.types.Kind.{Kind}
use Rattle.rules_data.specs.types.Attributes.{packable, storable}
use Rattle.rules_code.specs.instructions.Context.{Context}
use Rattle.rules_code.specs.instructions.Arguments.{Found, found, fault, and_then, is_view_name}
use Rattle.rules_code.specs.typing.Typing.{shift}
use Rattle.rules_code.specs.typing.Sections.{Placed, Body, WrittenView, Content, parameter_section, storage_section, code_section, view_section, no_section, placed, a_body, content_of, content_at, Contents, no_contents, once, with_content, with_sections}
use Rattle.rules_code.specs.typing.Sections as sections
use Rattle.rules_code.specs.typing.Scripts.{View, parameter_of, typed_as, TypedView, typed_view, typed_views, Outline, of_parts, of_contents, unless_fault, view_fault, a_view, with_views}
use Rattle.rules_code.specs.typing.Nodes.{trees_type, bodies, inner_bodies, outline}
use Rattle.rules_code.specs.typing.Nodes as nodes_of
use Rattle.laws_code.specs.evaluation.Laws.{IsType}
use Rattle.laws_code.proofs.typed.Carried.{FoundHas, found_then, IsRead, argument_read}

-- ---- bodies of views

-- a sequence with its typing, of at most so many nodes
pub record IsBody (n : ℕ) (b : Body) : Type 0 where
  pub content : Trees
  pub at : ℕ
  pub node : b.node ≡ seq content
  pub types : (c : Context) (A : List Kind) → b.typing c A ≡ shift at (trees_type content c A)
  pub small : size b.node ≤ n

abbrev pub ContentGood : ℕ → Content → Type 0
ContentGood n (view_section w) = IsBody n w.body
ContentGood n c = Unit {0}

pub view_good : (n at k : ℕ) (name : List ℕ) (u w : Tree) (ts : Trees) → size (seq ts) ≤ n → (b : Bool) →
    ContentGood n
    (if b then view_section record {
      name = name;
      input = placed (at + 2) u;
      output = placed (at + 2 + size u) w;
      body =
          a_body (at + 2 + size u + size w) (seq ts) (nodes_of.body (seq ts) k);
    } else no_section)
view_good n at k name u w ts h true = record { content = ts; at = k + 1; node = refl; types = λ c A. refl; small = h }
view_good n at k name u w ts h false = tt

pub content_good : (name : Option Primitive) (n at k : ℕ) (t : Tree) (args : Trees) → sizes args ≤ n →
    ContentGood n (content_of name at t args (bodies args k))
content_good (Some p.SectionParameter) n at k t (more u none) h = tt
content_good (Some p.SectionStorage) n at k t (more u none) h = tt
content_good (Some p.SectionCode) n at k t (more (seq ts) none) h = tt
content_good (Some p.SectionView) n at k t (more (str name) (more u (more w (more (seq ts) none)))) h =
    view_good n at _ name u w ts (omega arith) (is_view_name name)
content_good _ n at k t _ h = tt

abbrev pub ViewsGood : ℕ → List WrittenView → Type 0
ViewsGood n [] = Unit {0}
ViewsGood n (w ∷ ws) = IsBody n w.body × ViewsGood n ws

pub views_last : (n : ℕ) (ws : List WrittenView) (w : WrittenView) → ViewsGood n ws → IsBody n w.body → ViewsGood n (ws ++ w ∷ [])
views_last n [] w h g = (g, tt)
views_last n (u ∷ ws) w h g = (h.0, views_last n ws w h.1 g)

pub once_good : {A : Type 0} (n at : ℕ) (o : Option A) (c : Contents) → ViewsGood n c.views →
    FoundHas (λ c. ViewsGood n c.views) (once at o c)
once_good n at None c h = h
once_good n at (Some x) c h = tt

pub with_good : (n : ℕ) (c : Contents) (at : ℕ) (x : Content) → ViewsGood n c.views → ContentGood n x →
    FoundHas (λ c. ViewsGood n c.views) (with_content c at x)
with_good n c at (parameter_section s) h g = once_good n at c.parameter (record c { parameter = Some s }) h
with_good n c at (storage_section s) h g = once_good n at c.storage (record c { storage = Some s }) h
with_good n c at (code_section b) h g = once_good n at c.code (record c { code = Some b }) h
with_good n c at (view_section w) h g = once_good n at (sections.view_named w.name c.views)
    (record c { views = c.views ++ w ∷ [] }) (views_last n c.views w h g)
with_good n c at no_section h g = tt

pub section_good : (n at : ℕ) (t : Tree) → size t ≤ n → ContentGood n (content_at at t (inner_bodies t at))
section_good n at (prim name annots args) h = content_good (primitive_of_name name) n at (at + 1) (prim name annots args) args
    (omega arith)
section_good n at (int z) h = tt
section_good n at (str z) h = tt
section_good n at (bytes z) h = tt
section_good n at (seq z) h = tt

pub sections_good : (n : ℕ) (ts : Trees) (at : ℕ) (c : Contents) → sizes ts ≤ n → ViewsGood n c.views →
    FoundHas (λ c. ViewsGood n c.views) (with_sections c (nodes_of.sections ts at))
sections_good n none at c h g = g
sections_good n (more t ts) at c h g =
    found_then (λ c. ViewsGood n c.views) (λ c. ViewsGood n c.views) (with_content c at (content_at at t (inner_bodies t at))) _
    (with_good n c at (content_at at t (inner_bodies t at)) g (section_good n at t (omega arith)))
    (λ d i. sections_good n ts (at + size t) d (omega arith) i)

-- ---- their types

pub record TypedGood (n : ℕ) (w : TypedView) : Type 0 where
  pub body : IsBody n w.body
  pub input : IsRead packable w.input
  pub output : IsRead packable w.output

abbrev pub AllTyped : ℕ → List TypedView → Type 0
AllTyped n [] = Unit {0}
AllTyped n (w ∷ ws) = TypedGood n w × AllTyped n ws

pub typed_good : (n : ℕ) (w : WrittenView) → IsBody n w.body → FoundHas (TypedGood n) (typed_view w)
typed_good n w h =
    found_then (IsRead packable) (TypedGood n) (typed_as packable w.input) _
    (argument_read packable w.input.location w.input.node)
    (λ a g. found_then (IsRead packable) (TypedGood n) (typed_as packable w.output) _
    (argument_read packable w.output.location w.output.node) (λ b i. record { body = h; input = g; output = i }))

pub all_typed : (n : ℕ) (ws : List WrittenView) → ViewsGood n ws → FoundHas (AllTyped n) (typed_views ws)
all_typed n [] h = tt
all_typed n (w ∷ ws) h =
    found_then (TypedGood n) (AllTyped n) (typed_view w) _ (typed_good n w h.0)
    (λ u g. found_then (AllTyped n) (AllTyped n) (typed_views ws) _ (all_typed n ws h.1) (λ us i. (g, i)))

pub record OutlineGood (n : ℕ) (o : Outline) : Type 0 where
  pub views : AllTyped n o.views
  pub storage : IsType o.storage

pub any_found : {A : Type 0} (x : Found A) → FoundHas (λ a. Unit {0}) x
any_found (found a) = tt
any_found (fault l) = tt

pub parts_good : (n at : ℕ) (a s : Option Placed) (b : Option Body) (ws : List WrittenView) → ViewsGood n ws →
    FoundHas (OutlineGood n) (of_parts at a s b ws)
parts_good n at (Some a) (Some s) (Some b) ws h =
    found_then (λ e. Unit {0}) (OutlineGood n) (parameter_of a) _ (any_found (parameter_of a))
    (λ e _. found_then (IsRead storable) (OutlineGood n) (typed_as storable s) _ (argument_read storable s.location s.node)
    (λ t g. found_then (AllTyped n) (OutlineGood n) (typed_views ws) _ (all_typed n ws h)
    (λ us i. record { views = i; storage = g.1 })))
parts_good n at (Some a) (Some s) None ws h = tt
parts_good n at (Some a) None b ws h = tt
parts_good n at None s b ws h = tt

pub outline_good : (t : Tree) → FoundHas (OutlineGood (size t)) (outline t)
outline_good (seq ts) =
    found_then (λ c. ViewsGood (sizes ts + 1) c.views) (OutlineGood (sizes ts + 1))
    (with_sections no_contents (nodes_of.sections ts 1)) (of_contents 0)
    (sections_good (sizes ts + 1) ts 1 no_contents (omega arith) tt)
    (λ c h. parts_good (sizes ts + 1) 0 c.parameter c.storage c.code c.views h)
outline_good (int n) = tt
outline_good (str n) = tt
outline_good (bytes n) = tt
outline_good (prim name annots args) = tt

-- ---- that they are tried

abbrev pub AllTried : Kind → List TypedView → Type 0
AllTried s [] = Unit {0}
AllTried s (w ∷ ws) = (view_fault s w ≡ None) × AllTried s ws

pub all_tried : (s : Kind) (ws : List TypedView) (us : List View) → with_views s ws ≡ found us → AllTried s ws
all_tried s [] us h = tt
all_tried s (w ∷ ws) us h = by_fault (view_fault s w) refl h (λ vs q. all_tried s ws vs q)
  where
    by_rest : (q : Found (List View)) → with_views s ws ≡ q → and_then q (λ vs. found (a_view w ∷ vs)) ≡ found us →
        ((vs : List View) → with_views s ws ≡ found vs → AllTried s ws) → AllTried s ws
    by_rest (found vs) e h k = k vs e
    by_rest (fault l) e h k = absurd cc

    by_fault : (o : Option ℕ) → view_fault s w ≡ o → unless_fault o
        (and_then (with_views s ws) (λ vs. found (a_view w ∷ vs))) ≡ found us →
        ((vs : List View) → with_views s ws ≡ found vs → AllTried s ws) → (view_fault s w ≡ None) × AllTried s ws
    by_fault (Some l) e h k = absurd cc
    by_fault None e h k = (e, by_rest (with_views s ws) refl h k)
