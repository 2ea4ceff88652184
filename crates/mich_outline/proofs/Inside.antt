-- The bodies of a script are smaller than the script.
use Rattle.std.proofs.Common.{◌≡◌, ℕ, ◌+◌, ◌<◌, ◌≤◌, Bool, true, false, List, [], ◌∷◌, ◌++◌, Option, Some, None, subst, arith}
use Rattle.std.specs.Prelude.{if◌then◌else◌}
use Rattle.rules_text.specs.nodes.Tree.{Tree, int, str, bytes, prim, seq, Trees, none, more, size, sizes}
use Rattle.rules_text.specs.nodes.Primitives.{primitive_of_name}
use Rattle.rules_text.specs.declared.nodes.Primitive.{Primitive}
use Rattle.rules_text.specs.declared.nodes.Primitive.TheVariants as p
use Rattle.rules_data.specs.types.Attributes.{packable, storable}
use Rattle.rules_code.specs.instructions.Arguments.{Found, found, fault, and_then, is_view_name}
use Rattle.rules_code.specs.typing.Typing.{Typer}
use Rattle.rules_code.specs.typing.Sections.{Placed, Body, WrittenView, Content, parameter_section, storage_section, code_section, view_section, no_section, placed, a_body, view_content, content_of, content_at, Contents, no_contents, once, view_named, with_content, with_sections}
use Rattle.rules_code.specs.typing.Scripts.{parameter_of, typed_as, TypedView, typed_view, typed_views, Outline, with_types, of_parts, of_contents}
use Rattle.rules_code.specs.typing.Nodes.{inner_bodies, sections}
use Rattle.mich_outline.specs.Outlines.{outline_at}

module _ (n : ℕ) where
  abbrev Small : Body → Type 0
  Small b = size b.node < n

  abbrev AllSmall : List WrittenView → Type 0
  AllSmall [] = Unit {0}
  AllSmall (v ∷ vs) = Small v.body × AllSmall vs

  -- the bodies of views have fewer nodes
  abbrev pub ViewsSmall : List TypedView → Type 0
  ViewsSmall [] = Unit {0}
  ViewsSmall (v ∷ vs) = Small v.body × ViewsSmall vs

  abbrev OnSome : {A : Type 0} → (A → Type 0) → Option A → Type 0
  OnSome P None = Unit {0}
  OnSome P (Some x) = P x

  abbrev OnFound : {A : Type 0} → (A → Type 0) → Found A → Type 0
  OnFound P (found x) = P x
  OnFound P (fault l) = Unit {0}

  abbrev ContentSmall : Content → Type 0
  ContentSmall (code_section b) = Small b
  ContentSmall (view_section v) = Small v.body
  ContentSmall x = Unit {0}

  record ContentsSmall (c : Contents) : Type 0 where
    code : OnSome Small c.code
    views : AllSmall c.views

  -- the bodies have fewer nodes
  pub record IsSmall (o : Outline) : Type 0 where
    pub code : size o.code.node < n
    pub views : ViewsSmall o.views

  then_small : {A B : Type 0} (P : A → Type 0) (Q : B → Type 0) (x : Found A) (f : A → Found B) → OnFound P x → ((a : A) → P a → OnFound Q (f a)) → OnFound Q (and_then x f)
  then_small P Q (found a) f h k = k a h
  then_small P Q (fault l) f h k = tt

  view_small : (at : ℕ) (name : List ℕ) (u w b : Tree) (f : Typer) → size b < n → ContentSmall (view_content at name u w b f)
  view_small at name u w b f h = by (is_view_name name)
    where
      by : (x : Bool) → ContentSmall (if x then view_section record { name = name; input = placed (at + 2) u; output = placed (at + 2 + size u) w; body = a_body (at + 2 + size u + size w) b f } else no_section)
      by true = h
      by false = tt

  content_small : (o : Option Primitive) (at : ℕ) (t : Tree) (args : Trees) (fs : List Typer) → sizes args + 1 ≤ n → ContentSmall (content_of o at t args fs)
  content_small (Some p.SectionParameter) at t (more u none) fs h = tt
  content_small (Some p.SectionStorage) at t (more u none) fs h = tt
  content_small (Some p.SectionCode) at t (more (seq ts) none) (f ∷ []) h = omega arith
  content_small (Some p.SectionView) at t (more (str name) (more u (more w (more (seq ts) none)))) (a ∷ b ∷ c ∷ f ∷ []) h = view_small at name u w (seq ts) f (omega arith)
  content_small _ at t _ _ h = tt

  at_small : (at : ℕ) (t : Tree) → size t ≤ n → ContentSmall (content_at at t (inner_bodies t at))
  at_small at (int z) h = tt
  at_small at (str s) h = tt
  at_small at (bytes b) h = tt
  at_small at (seq ts) h = tt
  at_small at (prim name annots ts) h = content_small (primitive_of_name name) at (prim name annots ts) ts (inner_bodies (prim name annots ts) at) h

  views_last : (vs : List WrittenView) (v : WrittenView) → AllSmall vs → Small v.body → AllSmall (vs ++ v ∷ [])
  views_last [] v h i = (i, tt)
  views_last (w ∷ ws) v h i = (h.0, views_last ws v h.1 i)

  once_small : {A : Type 0} (at : ℕ) (o : Option A) (c : Contents) → ContentsSmall c → OnFound ContentsSmall (once at o c)
  once_small at None c h = h
  once_small at (Some x) c h = tt

  with_small : (c : Contents) (at : ℕ) (x : Content) → ContentsSmall c → ContentSmall x → OnFound ContentsSmall (with_content c at x)
  with_small c at (parameter_section s) h i = once_small at c.parameter (record c { parameter = Some s }) record { code = h.code; views = h.views }
  with_small c at (storage_section s) h i = once_small at c.storage (record c { storage = Some s }) record { code = h.code; views = h.views }
  with_small c at (code_section b) h i = once_small at c.code (record c { code = Some b }) record { code = i; views = h.views }
  with_small c at (view_section v) h i = once_small at (view_named v.name c.views) (record c { views = c.views ++ v ∷ [] }) record { code = h.code; views = views_last c.views v h.views i }
  with_small c at no_section h i = tt

  sections_small : (ts : Trees) (at : ℕ) (c : Contents) → sizes ts ≤ n → ContentsSmall c → OnFound ContentsSmall (with_sections c (sections ts at))
  sections_small none at c h i = i
  sections_small (more t ts) at c h i =
      then_small ContentsSmall ContentsSmall (with_content c at (content_at at t (inner_bodies t at))) (λ d. with_sections d (sections ts (at + size t)))
      (with_small c at (content_at at t (inner_bodies t at)) i (at_small at t (omega arith)))
      (λ d j. sections_small ts (at + size t) d (omega arith) j)

  any_found : {A : Type 0} (x : Found A) → OnFound (λ a. Unit {0}) x
  any_found (found a) = tt
  any_found (fault l) = tt

  typed_small : (v : WrittenView) → Small v.body → OnFound (λ w. Small w.body) (typed_view v)
  typed_small v h =
      then_small (λ a. Unit {0}) (λ w. Small w.body) (typed_as packable v.input) (λ a. and_then (typed_as packable v.output) (λ b. found record { name = v.name; input = a; output = b; body = v.body }))
      (any_found (typed_as packable v.input))
      (λ a i. then_small (λ b. Unit {0}) (λ w. Small w.body) (typed_as packable v.output) (λ b. found record { name = v.name; input = a; output = b; body = v.body })
      (any_found (typed_as packable v.output)) (λ b j. h))

  all_typed_small : (vs : List WrittenView) → AllSmall vs → OnFound ViewsSmall (typed_views vs)
  all_typed_small [] h = tt
  all_typed_small (v ∷ vs) h =
      then_small (λ w. Small w.body) ViewsSmall (typed_view v) (λ t. and_then (typed_views vs) (λ ts. found (t ∷ ts))) (typed_small v h.0)
      (λ w i. then_small ViewsSmall ViewsSmall (typed_views vs) (λ ts. found (w ∷ ts)) (all_typed_small vs h.1) (λ ws j. (i, j)))

  parts_small : (at : ℕ) (a s : Option Placed) (b : Option Body) (vs : List WrittenView) → OnSome Small b → AllSmall vs → OnFound IsSmall (of_parts at a s b vs)
  parts_small at (Some a) (Some s) (Some b) vs h i =
      then_small (λ e. Unit {0}) IsSmall (parameter_of a) (λ e. and_then (typed_as storable s) (λ t. and_then (typed_views vs) (λ ws. found (with_types e t ws b)))) (any_found (parameter_of a))
      (λ e j. then_small (λ t. Unit {0}) IsSmall (typed_as storable s) (λ t. and_then (typed_views vs) (λ ws. found (with_types e t ws b))) (any_found (typed_as storable s))
      (λ t k. then_small ViewsSmall IsSmall (typed_views vs) (λ ws. found (with_types e t ws b)) (all_typed_small vs i)
      (λ ws l. record { code = h; views = l })))
  parts_small at None s b vs h i = tt
  parts_small at (Some a) None b vs h i = tt
  parts_small at (Some a) (Some s) None vs h i = tt

  found_small : (x : Found Outline) (o : Outline) → OnFound IsSmall x → x ≡ found o → IsSmall o
  found_small (found q) o h e = subst (λ x. OnFound IsSmall x) e h
  found_small (fault l) o h e = absurd cc

outline_small : (at : ℕ) (t : Tree) → OnFound (size t) (IsSmall (size t)) (outline_at at t)
outline_small at (int z) = tt
outline_small at (str s) = tt
outline_small at (bytes b) = tt
outline_small at (prim name annots ts) = tt
outline_small at (seq ts) =
    then_small (sizes ts + 1) (ContentsSmall (sizes ts + 1)) (IsSmall (sizes ts + 1)) (with_sections no_contents (sections ts (at + 1))) (of_contents at)
    (sections_small (sizes ts + 1) ts (at + 1) no_contents (omega arith) record { code = tt; views = tt })
    (λ c h. parts_small (sizes ts + 1) at c.parameter c.storage c.code c.views h.code h.views)

-- the bodies of a script at a location have fewer nodes than it
pub bodies_small : (at : ℕ) (t : Tree) (o : Outline) → outline_at at t ≡ found o → IsSmall (size t) o
bodies_small at t o e = found_small (size t) (outline_at at t) o (outline_small at t) e
