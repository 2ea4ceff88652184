-- A typed script has the storage type that its first `storage` section tells.
use Rattle.std.proofs.Common.{◌≡◌, ◌⊎◌, inl, inr, ℕ, ◌+◌, Bool, true, false, cond, List, [], ◌∷◌, Option, Some, None, refl, sym, ap, subst, ◌∙◌}
use Rattle.rules_text.specs.nodes.Tree.{Tree, int, str, bytes, prim, seq, Trees, none, more, size}
use Rattle.rules_text.specs.nodes.Primitives.{primitive_of_name}
use Rattle.rules_text.specs.declared.nodes.Primitive.{Primitive}
use Rattle.rules_text.specs.declared.nodes.Primitive.TheVariants as p
use Rattle.rules_data.specs.types.Kind.{Kind}
use Rattle.rules_data.specs.types.Kind as k
use Rattle.rules_data.specs.types.Attributes.{storable}
use Rattle.rules_data.specs.types.Reading.{Former, simple_type, operation_type, one_argument, two_arguments, pair_type, former_of_name, asked_of_argument, of_argument, asked_of_first, asked_of_second, of_arguments, any_kind, Read, good, bad, Part, part, with_part, on_good, paired, applied, typed, parts, Reading, a_type, bad_type, too_large, limited, type_at}
use Rattle.rules_code.specs.instructions.Arguments.{Found, found, fault, and_then, with_attribute, is_view_name}
use Rattle.rules_code.specs.typing.Typing.{Typer}
use Rattle.rules_code.specs.typing.Nodes.{script, sections, inner_bodies}
use Rattle.rules_code.specs.typing.Sections.{Placed, Body, WrittenView, Content, parameter_section, storage_section, code_section, view_section, no_section, placed, a_body, content_of, content_at, Contents, no_contents, once, view_named, with_content, with_sections}
use Rattle.rules_code.specs.typing.Scripts.{Script, Outline, with_types, parameter_of, typed_as, typed_views, of_parts, of_contents, outline_of, unless_fault, code_fault, with_views, a_script, with_bodies}
use Rattle.rules_files.specs.snapshots.Reading.{if_storable, in_section, first_storage, storage_kind}

-- ---- a type is read alike at each location

abbrev Alike : Read → Read → Type 0
Alike (good a) (good b) = a ≡ b
Alike (bad l) (bad m) = Unit {0}
Alike (good a) (bad m) = ⊥
Alike (bad l) (good b) = ⊥

abbrev AlikePart : Part → Part → Type 0
AlikePart (part at r) (part bt s) = Alike r s

abbrev AlikeParts : List Part → List Part → Type 0
AlikeParts [] [] = Unit {0}
AlikeParts (q ∷ qs) (r ∷ rs) = AlikePart q r × AlikeParts qs rs
AlikeParts [] (r ∷ rs) = ⊥
AlikeParts (q ∷ qs) [] = ⊥

with_alike : (asked : Kind → Bool) (q r : Part) (f g : Kind → Read) → AlikePart q r → ((a : Kind) → Alike (f a) (g a)) →
    Alike (with_part asked q f) (with_part asked r g)
with_alike asked (part at (good a)) (part bt (good b)) f g e h =
    subst (λ (c : Kind). Alike (cond (asked a) (f a) (bad at)) (cond (asked c) (g c) (bad bt))) e (by (asked a))
  where
    by : (x : Bool) → Alike (cond x (f a) (bad at)) (cond x (g a) (bad bt))
    by true = h a
    by false = tt
with_alike asked (part at (bad l)) (part bt (bad m)) f g e h = tt
with_alike asked (part at (good a)) (part bt (bad m)) f g e h = absurd e
with_alike asked (part at (bad l)) (part bt (good b)) f g e h = absurd e

good_alike : (f : Kind → Kind) (x y : Read) → Alike x y → Alike (on_good f x) (on_good f y)
good_alike f (good a) (good b) e = ap f e
good_alike f (bad l) (bad m) e = tt
good_alike f (good a) (bad m) e = absurd e
good_alike f (bad l) (good b) e = absurd e

pairs_alike : (q r : Part) (qs rs : List Part) → AlikePart q r → AlikeParts qs rs → Alike (paired q qs) (paired r rs)
pairs_alike q r [] [] e h = with_alike any_kind q r good good e (λ a. refl)
pairs_alike q r (u ∷ us) (v ∷ vs) e h =
    let rest = pairs_alike u v us vs h.0 h.1 in
    with_alike any_kind q r (λ a. on_good (k.pair a) (paired u us)) (λ a. on_good (k.pair a) (paired v vs)) e
    (λ a. good_alike (k.pair a) (paired u us) (paired v vs) rest)
pairs_alike q r [] (v ∷ vs) e h = absurd h
pairs_alike q r (u ∷ us) [] e h = absurd h

applied_alike : (f : Former) (at bt : ℕ) (qs rs : List Part) → AlikeParts qs rs → Alike (applied f at qs) (applied f bt rs)
applied_alike (simple_type s) at bt [] [] h = refl
applied_alike operation_type at bt [] [] h = refl
applied_alike (one_argument f) at bt (q ∷ []) (r ∷ []) h =
    with_alike (asked_of_argument f) q r (λ a. good (of_argument f a)) (λ a. good (of_argument f a)) h.0 (λ a. refl)
applied_alike (two_arguments f) at bt (q ∷ u ∷ []) (r ∷ v ∷ []) h =
    with_alike (asked_of_first f) q r (λ a. with_part (asked_of_second f) u (λ b. good (of_arguments f a b)))
    (λ a. with_part (asked_of_second f) v (λ b. good (of_arguments f a b))) h.0
    (λ a. with_alike (asked_of_second f) u v (λ b. good (of_arguments f a b)) (λ b. good (of_arguments f a b)) h.1.0 (λ b. refl))
applied_alike pair_type at bt (q ∷ u ∷ qs) (r ∷ v ∷ rs) h = pairs_alike q r (u ∷ qs) (v ∷ rs) h.0 h.1
applied_alike f at bt [] (r ∷ rs) h = absurd h
applied_alike f at bt (q ∷ qs) [] h = absurd h
applied_alike f at bt (q ∷ []) (r ∷ v ∷ rs) h = absurd h.1
applied_alike f at bt (q ∷ u ∷ qs) (r ∷ []) h = absurd h.1
applied_alike f at bt (q ∷ u ∷ []) (r ∷ v ∷ w ∷ rs) h = absurd h.1.1
applied_alike f at bt (q ∷ u ∷ w ∷ qs) (r ∷ v ∷ []) h = absurd h.1.1
applied_alike _ at bt _ _ h = tt

mutual
  typed_alike : (at bt : ℕ) (t : Tree) → Alike (typed at t) (typed bt t)
  typed_alike at bt (int n) = tt
  typed_alike at bt (str s) = tt
  typed_alike at bt (bytes b) = tt
  typed_alike at bt (seq ts) = tt
  typed_alike at bt (prim name annots args) =
      applied_alike (former_of_name name) at bt (parts (at + 1) args) (parts (bt + 1) args) (parts_alike (at + 1) (bt + 1) args)

  parts_alike : (at bt : ℕ) (ts : Trees) → AlikeParts (parts at ts) (parts bt ts)
  parts_alike at bt none = tt
  parts_alike at bt (more t ts) = (typed_alike at bt t, parts_alike (at + size t) (bt + size t) ts)

storable_by : (b : Bool) (c a : Kind) (at : ℕ) → cond b (found c) (fault at) ≡ found a → cond b (Some c) None ≡ Some a
storable_by true c a at e = cc
storable_by false c a at e = absurd cc

attribute_told : (r : Reading) (a : Kind) (at : ℕ) → with_attribute storable at r ≡ found a → if_storable r ≡ Some a
attribute_told (a_type c) a at e = storable_by (storable c) c a at e
attribute_told (bad_type l) a at e = absurd cc
attribute_told too_large a at e = absurd cc

read_alike : (x y : Read) → Alike x y → if_storable (limited x) ≡ if_storable (limited y)
read_alike (good b) (good c) e = ap (λ (d : Kind). if_storable (limited (good d))) e
read_alike (bad l) (bad m) e = refl
read_alike (good b) (bad m) e = absurd e
read_alike (bad l) (good c) e = absurd e

type_told : (s : Placed) (a : Kind) → typed_as storable s ≡ found a → if_storable (type_at 0 s.node) ≡ Some a
type_told s a e =
    read_alike (typed 0 s.node) (typed s.location s.node) (typed_alike 0 s.location s.node) ∙ attribute_told (type_at s.location s.node) a s.location e

-- ---- sections

abbrev Tells : Option Primitive → Trees → Content → Type 0
Tells q args (storage_section s) = (behind : Option Kind) → in_section q args behind ≡ if_storable (type_at 0 s.node)
Tells q args no_section = Unit {0}
Tells q args x = (behind : Option Kind) → in_section q args behind ≡ behind

content_tells : (q : Option Primitive) (at : ℕ) (t : Tree) (args : Trees) (bs : List Typer) → Tells q args (content_of q at t args bs)
content_tells (Some p.SectionParameter) at t (more u none) bs = λ behind. refl
content_tells (Some p.SectionStorage) at t (more u none) bs = λ behind. refl
content_tells (Some p.SectionCode) at t (more (seq ts) none) (b ∷ []) = λ behind. refl
content_tells (Some p.SectionView) at t (more (str s) (more u (more w (more (seq ts) none)))) (n ∷ i ∷ o ∷ b ∷ []) = by (is_view_name s)
  where
    by : (x : Bool) → Tells (Some p.SectionView) (more (str s) (more u (more w (more (seq ts) none))))
        (cond x (view_section record {
          name = s;
          input = placed (at + 2) u;
          output = placed (at + 2 + size u) w;
          body = a_body (at + 2 + size u + size w) (seq ts) b;
        }) no_section)
    by true = λ behind. refl
    by false = tt
content_tells _ at t args bs = tt

abbrev Steps : Content → Contents → Contents → Type 0
Steps (storage_section s) c d = (c.storage ≡ None) × (d.storage ≡ Some s)
Steps no_section c d = ⊥
Steps x c d = d.storage ≡ c.storage

once_is : {A : Type 0} (at : ℕ) (o : Option A) (c d : Contents) → once at o c ≡ found d → (o ≡ None) × (d ≡ c)
once_is at None c d e = (refl, let same : found c ≡ found d = e in sym cc)
once_is at (Some x) c d e = absurd cc

content_steps : (c d : Contents) (at : ℕ) (x : Content) → with_content c at x ≡ found d → Steps x c d
content_steps c d at (parameter_section s) e = ap (λ (z : Contents). z.storage) (once_is at c.parameter (record c { parameter = Some s }) d e).1
content_steps c d at (storage_section s) e =
    let o = once_is at c.storage (record c { storage = Some s }) d e in (o.0, ap (λ (z : Contents). z.storage) o.1)
content_steps c d at (code_section b) e = ap (λ (z : Contents). z.storage) (once_is at c.code (record c { code = Some b }) d e).1
content_steps c d at (view_section v) e = ap (λ (z : Contents). z.storage) (once_is at (view_named v.name c.views) _ d e).1
content_steps c d at no_section e = absurd cc

-- the storage section stood before, or the first one among these sections tells the type
abbrev IsFoundIn : Contents → Trees → Placed → Type 0
IsFoundIn c ts s = (c.storage ≡ Some s) ⊎ ((c.storage ≡ None) × (first_storage ts ≡ if_storable (type_at 0 s.node)))

then_found : {A B : Type 0} (x : Found A) (f : A → Found B) (y : B) → and_then x f ≡ found y → (z : A) × (x ≡ found z) × (f z ≡ found y)
then_found (found z) f y e = (z, refl, e)
then_found (fault l) f y e = absurd cc

none_some : (s : Placed) (o : Option Placed) → o ≡ None → o ≡ Some s → ⊥
none_some s o n e = let no : None ≡ Some s = sym n ∙ e in absurd cc

section_tells : (c d : Contents) (q : Option Primitive) (args ts : Trees) (s : Placed) (x : Content) → Tells q args x → Steps x c d → IsFoundIn d ts s
    → (c.storage ≡ Some s) ⊎ ((c.storage ≡ None) × (in_section q args (first_storage ts) ≡ if_storable (type_at 0 s.node)))
section_tells c d q args ts s (storage_section r) tells st (inl there) =
    let same : Some r ≡ Some s = sym st.1 ∙ there in
    let is : r ≡ s = cc in
    inr (st.0, tells (first_storage ts) ∙ ap (λ (z : Placed). if_storable (type_at 0 z.node)) is)
section_tells c d q args ts s (storage_section r) tells st (inr later) = absurd (none_some r d.storage later.0 st.1)
section_tells c d q args ts s (parameter_section r) tells st (inl there) = inl (sym st ∙ there)
section_tells c d q args ts s (parameter_section r) tells st (inr later) = inr (sym st ∙ later.0, tells (first_storage ts) ∙ later.1)
section_tells c d q args ts s (code_section b) tells st (inl there) = inl (sym st ∙ there)
section_tells c d q args ts s (code_section b) tells st (inr later) = inr (sym st ∙ later.0, tells (first_storage ts) ∙ later.1)
section_tells c d q args ts s (view_section v) tells st (inl there) = inl (sym st ∙ there)
section_tells c d q args ts s (view_section v) tells st (inr later) = inr (sym st ∙ later.0, tells (first_storage ts) ∙ later.1)
section_tells c d q args ts s no_section tells st there = absurd st

sections_tell : (ts : Trees) (at : ℕ) (c d : Contents) (s : Placed) → with_sections c (sections ts at) ≡ found d → d.storage ≡ Some s → IsFoundIn c ts s
sections_tell none at c d s e there = inl (ap (λ (z : Contents). z.storage) (let same : found c ≡ found d = e in (let is : c ≡ d = cc in is)) ∙ there)
sections_tell (more (prim name annots args) ts) at c d s e there =
    let t = prim name annots args in
    let x = content_at at t (inner_bodies t at) in
    let step = then_found (with_content c at x) (λ (z : Contents). with_sections z (sections ts (at + size t))) d e in
    section_tells c step.0 (primitive_of_name name) args ts s x (content_tells (primitive_of_name name) at t args (inner_bodies t at))
    (content_steps c step.0 at x step.1)
    (sections_tell ts (at + size t) step.0 d s step.2 there)
sections_tell (more (int n) ts) at c d s e there = absurd cc
sections_tell (more (str b) ts) at c d s e there = absurd cc
sections_tell (more (bytes b) ts) at c d s e there = absurd cc
sections_tell (more (seq us) ts) at c d s e there = absurd cc

-- ---- scripts

bodies_keep : (o : Outline) (s : Script) → with_bodies o ≡ found s → s.storage ≡ o.storage
bodies_keep o s e = by (code_fault o) e
  where
    made : and_then (with_views o.storage o.views) (λ vs. found (a_script o vs)) ≡ found s → s.storage ≡ o.storage
    made h =
        let step = then_found (with_views o.storage o.views) (λ vs. found (a_script o vs)) s h in
        let same : found (a_script o step.0) ≡ found s = step.2 in
        let is : a_script o step.0 ≡ s = cc in
        sym (ap (λ (z : Script). z.storage) is)

    by : (f : Option ℕ) → unless_fault f (and_then (with_views o.storage o.views) (λ vs. found (a_script o vs))) ≡ found s → s.storage ≡ o.storage
    by (Some l) h = absurd cc
    by None h = made h

parts_tell : (at : ℕ) (q r : Option Placed) (b : Option Body) (vs : List WrittenView) (o : Outline) → of_parts at q r b vs ≡ found o
    → (s : Placed) × (r ≡ Some s) × (if_storable (type_at 0 s.node) ≡ Some o.storage)
parts_tell at (Some a) (Some s) (Some b) vs o e =
    let entered = then_found (parameter_of a) _ o e in
    let stored = then_found (typed_as storable s) _ o entered.2 in
    let viewed = then_found (typed_views vs) _ o stored.2 in
    let same : found (with_types entered.0 stored.0 viewed.0 b) ≡ found o = viewed.2 in
    let is : with_types entered.0 stored.0 viewed.0 b ≡ o = cc in
    (s, refl, type_told s stored.0 stored.1 ∙ ap (λ (z : Outline). Some z.storage) is)
parts_tell at None r b vs o e = absurd cc
parts_tell at (Some a) None b vs o e = absurd cc
parts_tell at (Some a) (Some s) None vs o e = absurd cc

told_first : (ts : Trees) (s : Placed) (a : Kind) → IsFoundIn no_contents ts s → if_storable (type_at 0 s.node) ≡ Some a → first_storage ts ≡ Some a
told_first ts s a (inl there) e = absurd (none_some s None refl there)
told_first ts s a (inr later) e = later.1 ∙ e

-- the type of a typed script's storage is the one by which its storage is read
pub storage_is : (t : Tree) (s : Script) → script t ≡ found s → storage_kind t ≡ Some s.storage
storage_is (seq ts) s e =
    let outlined = then_found (outline_of 0 (sections ts 1)) with_bodies s e in
    let o = outlined.0 in
    let sectioned = then_found (with_sections no_contents (sections ts 1)) (of_contents 0) o outlined.1 in
    let d = sectioned.0 in
    let told = parts_tell 0 d.parameter d.storage d.code d.views o sectioned.2 in
    told_first ts told.0 o.storage (sections_tell ts 1 no_contents d told.0 sectioned.1 told.1) told.2
    ∙ ap (λ (a : Kind). Some a) (sym (bodies_keep o s outlined.2))
storage_is (int n) s e = absurd cc
storage_is (str b) s e = absurd cc
storage_is (bytes b) s e = absurd cc
storage_is (prim name annots args) s e = absurd cc
