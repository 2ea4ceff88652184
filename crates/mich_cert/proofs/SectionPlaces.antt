-- The bodies of a script stand where its sections say.
use Rattle.std.proofs.Common.{◌≡◌, ℕ, zero, suc, ◌+◌, ◌≤◌, Bool, true, false, cond, Option, Some, None, List, [], ◌∷◌, ◌++◌, length, refl, sym, ap, ◌∙◌, arith}
use Rattle.std.specs.Prelude.{slice_get}
use Rattle.rules_text.specs.nodes.Tree.{Tree, int, str, bytes, prim, seq, Trees, none, more, size, preorder, preorders}
use Rattle.rules_text.specs.nodes.Primitives.{primitive_of_name}
use Rattle.rules_text.specs.declared.nodes.Primitive.{Primitive}
use Rattle.rules_text.specs.declared.nodes.Primitive.TheVariants as p
use Rattle.rules_data.specs.types.Attributes.{packable, storable}
use Rattle.rules_data.specs.types.Kind.{Kind}
use Rattle.rules_code.specs.instructions.Arguments.{Found, found, fault, and_then, is_view_name}
use Rattle.rules_code.specs.instructions.Context.{Context}
use Rattle.rules_code.specs.typing.Nodes.{bodies, inner_bodies, outline}
use Rattle.rules_code.specs.typing.Nodes as nodes
use Rattle.rules_code.specs.typing.Scripts.{parameter_of, typed_as, TypedView, typed_view, typed_views, Outline, of_parts}
use Rattle.rules_code.specs.typing.Sections.{Placed, Body, WrittenView, Content, parameter_section, storage_section, code_section, view_section, no_section, placed, a_body, content_of, content_at, Contents, no_contents, once, with_content, with_sections, view_named}
use Rattle.laws_typing.proofs.literals_lemmas.ForCallers.{size_is}

-- ---- what is found

abbrev pub FoundHas : {A : Type 0} → (A → Type 0) → Found A → Type 0
FoundHas P (found x) = P x
FoundHas P (fault l) = Unit {0}

found_then : {A B : Type 0} (P : A → Type 0) (Q : B → Type 0) (x : Found A) (next : A → Found B) → FoundHas P x →
    ((a : A) → P a → FoundHas Q (next a)) → FoundHas Q (and_then x next)
found_then P Q (found a) next h g = g a h
found_then P Q (fault l) next h g = tt

any_found : {A : Type 0} (q : Found A) → FoundHas (λ a. Unit {0}) q
any_found (found x) = tt
any_found (fault l) = tt

-- ---- lists of nodes

get_left : (xs ys : List Tree) (i : ℕ) (x : Tree) → slice_get xs i ≡ Some x → slice_get (xs ++ ys) i ≡ Some x
get_left [] ys i x h = absurd cc
get_left (y ∷ xs) ys zero x h = h
get_left (y ∷ xs) ys (suc i) x h = get_left xs ys i x h

get_right : (xs ys : List Tree) (i : ℕ) → slice_get (xs ++ ys) (length xs + i) ≡ slice_get ys i
get_right [] ys i = ap (slice_get ys) (omega arith)
get_right (x ∷ xs) ys i = ap (slice_get (x ∷ (xs ++ ys))) by ∙ get_right xs ys i
  where
    by : length (x ∷ xs) + i ≡ suc (length xs + i)
    by = omega arith

skip : (t : Tree) (us : Trees) (i : ℕ) → slice_get (preorders (more t us)) (size t + i) ≡ slice_get (preorders us) i
skip t us i = ap (λ n. slice_get (preorders (more t us)) (n + i)) (size_is t) ∙ get_right (preorder t) (preorders us) i

root : (t : Tree) (us : Trees) → slice_get (preorders (more t us)) 0 ≡ Some t
root (int n) us = refl
root (str s) us = refl
root (bytes b) us = refl
root (prim name annots ts) us = refl
root (seq ts) us = refl

module _ (ns : List Tree) where
  -- nodes stand from a location on
  abbrev StandFrom : ℕ → Trees → Type 0
  StandFrom n us = (i : ℕ) (u : Tree) → slice_get (preorders us) i ≡ Some u → slice_get ns (n + i) ≡ Some u

  next_stand : (n : ℕ) (u : Tree) (us : Trees) → StandFrom n (more u us) → StandFrom (n + size u) us
  next_stand n u us h i t e =
      let g : n + size u + i ≡ n + (size u + i) = omega arith in
      ap (slice_get ns) g ∙ h (size u + i) t (skip u us i ∙ e)

  inner_stand : (n : ℕ) (name : List ℕ) (annots : List (List ℕ)) (args us : Trees) → StandFrom n (more (prim name annots args) us) → StandFrom (n + 1) args
  inner_stand n name annots args us h i t e =
      let g : n + 1 + i ≡ n + suc i = omega arith in
      ap (slice_get ns) g ∙ h (suc i) t (get_left (preorders args) (preorders us) i t e)

  first_stands : (n : ℕ) (u : Tree) (us : Trees) → StandFrom n (more u us) → slice_get ns n ≡ Some u
  first_stands n u us h = let g : n ≡ n + 0 = omega arith in ap (slice_get ns) g ∙ h 0 u (root u us)

  -- ---- bodies

  pub record Stands (b : Body) : Type 0 where
    pub inside : 1 ≤ b.location
    pub node_there : slice_get ns b.location ≡ Some b.node
    pub typed : (c : Context) (S : List Kind) → b.typing c S ≡ nodes.body b.node b.location c S

  abbrev ContentStands : Content → Type 0
  ContentStands (code_section b) = Stands b
  ContentStands (view_section v) = Stands v.body
  ContentStands c = Unit {0}

  code_stands : (n : ℕ) (us : Trees) → StandFrom (n + 1) (more (seq us) none) → Stands (a_body (n + 1) (seq us) (nodes.body (seq us) (n + 1)))
  code_stands n us h = record { inside = omega arith; node_there = first_stands (n + 1) (seq us) none h; typed = λ c S. refl }

  view_stands : (n : ℕ) (name : List ℕ) (u w : Tree) (us : Trees) → StandFrom (n + 1) (more (str name) (more u (more w (more (seq us) none)))) →
      Stands (a_body (n + 2 + size u + size w) (seq us) (nodes.body (seq us) (n + 1 + 1 + size u + size w)))
  view_stands n name u w us h =
      let e : n + 2 + size u + size w ≡ n + 1 + 1 + size u + size w = omega arith in
      let k : StandFrom (n + 1 + 1 + size u + size w) (more (seq us) none) =
      next_stand (n + 1 + 1 + size u) w (more (seq us) none) (next_stand (n + 1 + 1) u (more w (more (seq us) none)) (next_stand (n + 1) (str name) (more u (more w (more (seq us) none))) h)) in
      record {
        inside = omega arith;
        node_there = ap (slice_get ns) e ∙ first_stands (n + 1 + 1 + size u + size w) (seq us) none k;
        typed = λ c S. ap (λ l. nodes.body (seq us) l c S) (sym e);
      }

  view_by : (n : ℕ) (name : List ℕ) (u w : Tree) (us : Trees) → StandFrom (n + 1) (more (str name) (more u (more w (more (seq us) none)))) → (q : Bool) →
      ContentStands (cond q (view_section record { name = name; input = placed (n + 2) u; output = placed (n + 2 + size u) w; body = a_body (n + 2 + size u + size w) (seq us) (nodes.body (seq us) (n + 1 + 1 + size u + size w)) }) no_section)
  view_by n name u w us h true = view_stands n name u w us h
  view_by n name u w us h false = tt

  named_stands : (name : Option Primitive) (n : ℕ) (t : Tree) (args : Trees) → StandFrom (n + 1) args → ContentStands (content_of name n t args (bodies args (n + 1)))
  named_stands (Some p.SectionParameter) n t (more u none) h = tt
  named_stands (Some p.SectionStorage) n t (more u none) h = tt
  named_stands (Some p.SectionCode) n t (more (seq us) none) h = code_stands n us h
  named_stands (Some p.SectionView) n t (more (str name) (more u (more w (more (seq us) none)))) h = view_by n name u w us h (is_view_name name)
  named_stands _ n t _ h = tt

  section_stands : (n : ℕ) (t : Tree) (us : Trees) → StandFrom n (more t us) → ContentStands (content_at n t (inner_bodies t n))
  section_stands n (prim name annots args) us h = named_stands (primitive_of_name name) n (prim name annots args) args (inner_stand n name annots args us h)
  section_stands n (int z) us h = tt
  section_stands n (str z) us h = tt
  section_stands n (bytes z) us h = tt
  section_stands n (seq z) us h = tt

  -- ---- sections

  abbrev CodeStands : Option Body → Type 0
  CodeStands (Some b) = Stands b
  CodeStands None = Unit {0}

  abbrev ViewsStand : List WrittenView → Type 0
  ViewsStand [] = Unit {0}
  ViewsStand (v ∷ vs) = Stands v.body × ViewsStand vs

  abbrev SectionsStand : Contents → Type 0
  SectionsStand c = CodeStands c.code × ViewsStand c.views

  last_stands : (vs : List WrittenView) (v : WrittenView) → ViewsStand vs → Stands v.body → ViewsStand (vs ++ v ∷ [])
  last_stands [] v h g = (g, tt)
  last_stands (u ∷ us) v h g = (h.0, last_stands us v h.1 g)

  once_stands : {A : Type 0} (at : ℕ) (o : Option A) (c : Contents) → SectionsStand c → FoundHas SectionsStand (once at o c)
  once_stands at None c h = h
  once_stands at (Some x) c h = tt

  content_stands : (c : Contents) (at : ℕ) (x : Content) → SectionsStand c → ContentStands x → FoundHas SectionsStand (with_content c at x)
  content_stands c at (parameter_section s) h g = once_stands at c.parameter (record c { parameter = Some s }) h
  content_stands c at (storage_section s) h g = once_stands at c.storage (record c { storage = Some s }) h
  content_stands c at (code_section b) h g = once_stands at c.code (record c { code = Some b }) (g, h.1)
  content_stands c at (view_section v) h g = once_stands at (view_named v.name c.views) (record c { views = c.views ++ v ∷ [] }) (h.0, last_stands c.views v h.1 g)
  content_stands c at no_section h g = tt

  sections_stand : (n : ℕ) (us : Trees) (c : Contents) → StandFrom n us → SectionsStand c → FoundHas SectionsStand (with_sections c (nodes.sections us n))
  sections_stand n none c h g = g
  sections_stand n (more u us) c h g =
      found_then SectionsStand SectionsStand (with_content c n (content_at n u (inner_bodies u n))) _
      (content_stands c n (content_at n u (inner_bodies u n)) g (section_stands n u us h)) (λ d i. sections_stand (n + size u) us d (next_stand n u us h) i)

  -- ---- outlines

  abbrev pub TypedStand : List TypedView → Type 0
  TypedStand [] = Unit {0}
  TypedStand (v ∷ vs) = Stands v.body × TypedStand vs

  abbrev pub OutlineStands : Outline → Type 0
  OutlineStands o = Stands o.code × TypedStand o.views

  typed_stands : (v : WrittenView) → Stands v.body → FoundHas (λ w. Stands w.body) (typed_view v)
  typed_stands v h =
      found_then (λ a. Unit {0}) (λ w. Stands w.body) (typed_as packable v.input) _ (any_found (typed_as packable v.input))
      (λ a x. found_then (λ a. Unit {0}) (λ w. Stands w.body) (typed_as packable v.output) _ (any_found (typed_as packable v.output)) (λ b y. h))

  all_stand : (vs : List WrittenView) → ViewsStand vs → FoundHas TypedStand (typed_views vs)
  all_stand [] h = tt
  all_stand (v ∷ vs) h =
      found_then (λ w. Stands w.body) TypedStand (typed_view v) _ (typed_stands v h.0)
      (λ w g. found_then TypedStand TypedStand (typed_views vs) _ (all_stand vs h.1) (λ ws i. (g, i)))

  parts_stand : (at : ℕ) (a s : Option Placed) (b : Option Body) (vs : List WrittenView) → CodeStands b → ViewsStand vs → FoundHas OutlineStands (of_parts at a s b vs)
  parts_stand at (Some a) (Some s) (Some b) vs h g =
      found_then (λ e. Unit {0}) OutlineStands (parameter_of a) _ (any_found (parameter_of a))
      (λ e x. found_then (λ t. Unit {0}) OutlineStands (typed_as storable s) _ (any_found (typed_as storable s))
      (λ t y. found_then TypedStand OutlineStands (typed_views vs) _ (all_stand vs g) (λ ws i. (h, i))))
  parts_stand at (Some a) (Some s) None vs h g = tt
  parts_stand at (Some a) None b vs h g = tt
  parts_stand at None s b vs h g = tt

-- the bodies of a script, by its nodes in pre-order
pub outline_stands : (us : Trees) → FoundHas (OutlineStands (preorder (seq us))) (outline (seq us))
outline_stands us =
    found_then (SectionsStand (preorder (seq us))) (OutlineStands (preorder (seq us))) (with_sections no_contents (nodes.sections us 1)) _
    (sections_stand (preorder (seq us)) 1 us no_contents (λ i t e. let g : 1 + i ≡ suc i = omega arith in ap (slice_get (preorder (seq us))) g ∙ e) (tt, tt))
    (λ c h. parts_stand (preorder (seq us)) 0 c.parameter c.storage c.code c.views h.0 h.1)
