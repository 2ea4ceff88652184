-- The blocks of scripts that are accepted.
use Rattle.std.proofs.Common.{◌≡◌, ℕ, ◌+◌, ◌-◌, ◌≤◌, Bool, true, false, cond, Option, Some, None, List, [], ◌∷◌, ◌++◌, refl, sym, ap, ◌∙◌, subst, arith}
use Rattle.std.specs.Prelude.{slice_get}
use Rattle.rules_text.specs.nodes.Tree.{Tree, int, str, bytes, prim, seq, Trees, none, more, size}
use Rattle.rules_text.specs.nodes.Primitives.{primitive_of_name}
use Rattle.rules_text.specs.declared.nodes.Primitive.{Primitive}
use Rattle.rules_text.specs.declared.nodes.Primitive.TheVariants as p
use Rattle.rules_data.specs.types.Kind.{Kind, pair, list, operation}
use Rattle.rules_data.specs.types.Kind as k
use Rattle.rules_data.specs.types.Attributes.{packable, storable}
use Rattle.rules_code.specs.instructions.Types as types
use Rattle.rules_code.specs.instructions.Context.{Context}
use Rattle.rules_code.specs.instructions.Context as place
use Rattle.rules_code.specs.instructions.Arguments.{Found, found, fault, is_view_name}
use Rattle.rules_code.specs.instructions.Forms as f
use Rattle.rules_code.specs.typing.Typing.{Typing, goes, fails, bad, Typer}
use Rattle.rules_code.specs.typing.Bodies.{body_fault}
use Rattle.rules_code.specs.typing.Sections.{Placed, Body, WrittenView, Content, parameter_section, storage_section, code_section, view_section, no_section, placed, a_body, content_of, content_at, Contents, no_contents, once, with_content, with_sections, view_named}
use Rattle.rules_code.specs.typing.Scripts.{Script, parameter_of, typed_as, TypedView, typed_view, typed_views, Outline, of_parts, fault_of_body, code_fault, is_small}
use Rattle.rules_code.specs.typing.Stacks.{on_origination}
use Rattle.rules_code.specs.typing.Acts.{outside_views, one_body, of_script}
use Rattle.rules_code.specs.typing.Nodes.{tree_type, bodies, inner_bodies, outline, script, script_at, script_in, found_at, typings, typing_of}
use Rattle.rules_code.specs.typing.Nodes as nodes_of
use Rattle.rules_code.specs.certificates.Blocks.{Block, block, blocks, view_blocks, outline_blocks, script_blocks}
use Rattle.rules_code.specs.certificates.Blocks as blocks_of
use Rattle.laws_code.proofs.typed.ForCallers.{AllTried, all_tried, outlined}
use Rattle.laws_code.proofs.typed.Carried.{FoundHas, found_then}
use Rattle.laws_files.specs.certificates.Laws.{IsTyped, AllTyped, typing_in}
use Rattle.laws_files.proofs.certificates_lemmas.Typed.{typer, skip, typed_body}

-- ---- nodes at their locations

-- nodes stand behind so many others
abbrev StandBehind : Trees → ℕ → Trees → Type 0
StandBehind ts n us = (i : ℕ) (t : Typer) → slice_get (typings us) i ≡ Some t → slice_get (typings ts) (n + i) ≡ Some t

next_stand : (ts : Trees) (n : ℕ) (u : Tree) (us : Trees) → StandBehind ts n (more u us) → StandBehind ts (n + size u) us
next_stand ts n u us h i t e =
    ap (slice_get (typings ts)) (omega arith) ∙ h (size u + i) t (skip u us i ∙ e)

get_within : {X : Type 0} (xs ys : List X) (i : ℕ) (x : X) → slice_get xs i ≡ Some x → slice_get (xs ++ ys) i ≡ Some x
get_within [] ys i x e = absurd cc
get_within (z ∷ zs) ys ℕ.zero x e = e
get_within (z ∷ zs) ys (ℕ.suc i) x e = get_within zs ys i x e

-- the arguments of the first of them
inner_stand : (ts : Trees) (n : ℕ) (name : List ℕ) (annots : List (List ℕ)) (args us : Trees) → StandBehind ts n (more (prim name annots args) us) → StandBehind ts (n + 1) args
inner_stand ts n name annots args us h i t e =
    ap (slice_get (typings ts)) (omega arith) ∙ h (ℕ.suc i) t (get_within (typings args) (typings us) i t e)

-- ---- bodies

-- where the typing of a body accepts it, it accepts the block that stands at its location
abbrev pub Stands : Trees → Body → Type 0
Stands ts b = (1 ≤ b.location) × ((c : Context) (A : List Kind) → IsTyped (b.typing c A) → IsTyped (typing_in ts (block b.location c A)))

body_stands : (ts : Trees) (n l at : ℕ) (us : Trees) → slice_get (typings ts) n ≡ Some (typer (seq us)) → l ≡ n + 1 →
    Stands ts (a_body l (seq us) (λ c A. nodes_of.body (seq us) at c A))
body_stands ts n l at us e same =
    let there : l - 1 ≡ n = omega (arith, same) in
    (omega (arith, same), λ c A h. subst IsTyped (sym (ap (λ i. typing_of (slice_get (typings ts) i) c A) there ∙ ap (λ o. typing_of o c A) e)) (typed_body (seq us) at c A h))

abbrev pub ContentStands : Trees → Content → Type 0
ContentStands ts (code_section b) = Stands ts b
ContentStands ts (view_section v) = Stands ts v.body
ContentStands ts c = Unit {0}

view_stands : (ts : Trees) (n at : ℕ) (name : List ℕ) (u w : Tree) (us : Trees) → StandBehind ts (n + 1) (more (str name) (more u (more w (more (seq us) none)))) →
    (b : Bool) →
    ContentStands ts (cond b (view_section record { name = name; input = placed (1 + n + 2) u; output = placed (1 + n + 2 + size u) w; body = a_body (1 + n + 2 + size u + size w) (seq us) (λ c A. nodes_of.body (seq us) at c A) }) no_section)
view_stands ts n at name u w us h false = tt
view_stands ts n at name u w us h true =
    body_stands ts (n + 1 + (1 + (size u + (size w + 0)))) (1 + n + 2 + size u + size w) at us
    (h (1 + (size u + (size w + 0))) (typer (seq us))
    (skip (str name) (more u (more w (more (seq us) none))) (size u + (size w + 0)) ∙ skip u (more w (more (seq us) none)) (size w + 0) ∙ skip w (more (seq us) none) 0))
    (omega arith)

named_stands : (name : Option Primitive) (ts : Trees) (n : ℕ) (t : Tree) (args : Trees) → StandBehind ts (n + 1) args →
    ContentStands ts (content_of name (1 + n) t args (bodies args (1 + n + 1)))
named_stands (Some p.SectionParameter) ts n t (more u none) h = tt
named_stands (Some p.SectionStorage) ts n t (more u none) h = tt
named_stands (Some p.SectionCode) ts n t (more (seq us) none) h =
    body_stands ts (n + 1 + 0) (1 + n + 1) (1 + n + 1) us (h 0 (typer (seq us)) refl) (omega arith)
named_stands (Some p.SectionView) ts n t (more (str name) (more u (more w (more (seq us) none)))) h =
    view_stands ts n _ name u w us h (is_view_name name)
named_stands _ ts n t _ h = tt

section_stands : (ts : Trees) (n : ℕ) (t : Tree) (us : Trees) → StandBehind ts n (more t us) → ContentStands ts (content_at (1 + n) t (inner_bodies t (1 + n)))
section_stands ts n (prim name annots args) us h = named_stands (primitive_of_name name) ts n (prim name annots args) args (inner_stand ts n name annots args us h)
section_stands ts n (int z) us h = tt
section_stands ts n (str z) us h = tt
section_stands ts n (bytes z) us h = tt
section_stands ts n (seq z) us h = tt

-- ---- sections

abbrev CodeStands : Trees → Option Body → Type 0
CodeStands ts (Some b) = Stands ts b
CodeStands ts None = Unit {0}

abbrev ViewsStand : Trees → List WrittenView → Type 0
ViewsStand ts [] = Unit {0}
ViewsStand ts (v ∷ vs) = Stands ts v.body × ViewsStand ts vs

abbrev SectionsStand : Trees → Contents → Type 0
SectionsStand ts c = CodeStands ts c.code × ViewsStand ts c.views

last_stands : (ts : Trees) (vs : List WrittenView) (v : WrittenView) → ViewsStand ts vs → Stands ts v.body → ViewsStand ts (vs ++ v ∷ [])
last_stands ts [] v h g = (g, tt)
last_stands ts (u ∷ us) v h g = (h.0, last_stands ts us v h.1 g)

once_stands : {A : Type 0} (ts : Trees) (at : ℕ) (o : Option A) (c : Contents) → SectionsStand ts c → FoundHas (SectionsStand ts) (once at o c)
once_stands ts at None c h = h
once_stands ts at (Some x) c h = tt

content_stands : (ts : Trees) (c : Contents) (at : ℕ) (x : Content) → SectionsStand ts c → ContentStands ts x → FoundHas (SectionsStand ts) (with_content c at x)
content_stands ts c at (parameter_section s) h g = once_stands ts at c.parameter (record c { parameter = Some s }) h
content_stands ts c at (storage_section s) h g = once_stands ts at c.storage (record c { storage = Some s }) h
content_stands ts c at (code_section b) h g = once_stands ts at c.code (record c { code = Some b }) (g, h.1)
content_stands ts c at (view_section v) h g = once_stands ts at (view_named v.name c.views) (record c { views = c.views ++ v ∷ [] }) (h.0, last_stands ts c.views v h.1 g)
content_stands ts c at no_section h g = tt

sections_stand : (ts : Trees) (n : ℕ) (us : Trees) (c : Contents) → StandBehind ts n us → SectionsStand ts c →
    FoundHas (SectionsStand ts) (with_sections c (nodes_of.sections us (1 + n)))
sections_stand ts n none c h g = g
sections_stand ts n (more u us) c h g =
    found_then (SectionsStand ts) (SectionsStand ts) (with_content c (1 + n) (content_at (1 + n) u (inner_bodies u (1 + n)))) _
    (content_stands ts c (1 + n) (content_at (1 + n) u (inner_bodies u (1 + n))) g (section_stands ts n u us h))
    (λ d i. subst (λ at. FoundHas (SectionsStand ts) (with_sections d (nodes_of.sections us at))) (by n (size u)) (sections_stand ts (n + size u) us d (next_stand ts n u us h) i))
  where
    by : (n m : ℕ) → 1 + (n + m) ≡ 1 + n + m
    by n m = omega arith

-- ---- outlines

abbrev TypedStand : Trees → List TypedView → Type 0
TypedStand ts [] = Unit {0}
TypedStand ts (v ∷ vs) = Stands ts v.body × TypedStand ts vs

abbrev OutlineStands : Trees → Outline → Type 0
OutlineStands ts o = Stands ts o.code × TypedStand ts o.views

any_found : {A : Type 0} (q : Found A) → FoundHas (λ a. Unit {0}) q
any_found (found x) = tt
any_found (fault l) = tt

typed_stands : (ts : Trees) (v : WrittenView) → Stands ts v.body → FoundHas (λ w. Stands ts w.body) (typed_view v)
typed_stands ts v h =
    found_then (λ a. Unit {0}) (λ w. Stands ts w.body) (typed_as packable v.input) _ (any_found (typed_as packable v.input))
    (λ a x. found_then (λ a. Unit {0}) (λ w. Stands ts w.body) (typed_as packable v.output) _ (any_found (typed_as packable v.output)) (λ b y. h))

all_stand : (ts : Trees) (vs : List WrittenView) → ViewsStand ts vs → FoundHas (TypedStand ts) (typed_views vs)
all_stand ts [] h = tt
all_stand ts (v ∷ vs) h =
    found_then (λ w. Stands ts w.body) (TypedStand ts) (typed_view v) _ (typed_stands ts v h.0)
    (λ w g. found_then (TypedStand ts) (TypedStand ts) (typed_views vs) _ (all_stand ts vs h.1) (λ ws i. (g, i)))

parts_stand : (ts : Trees) (at : ℕ) (a s : Option Placed) (b : Option Body) (vs : List WrittenView) → CodeStands ts b → ViewsStand ts vs →
    FoundHas (OutlineStands ts) (of_parts at a s b vs)
parts_stand ts at (Some a) (Some s) (Some b) vs h g =
    found_then (λ e. Unit {0}) (OutlineStands ts) (parameter_of a) _ (any_found (parameter_of a))
    (λ e x. found_then (λ t. Unit {0}) (OutlineStands ts) (typed_as storable s) _ (any_found (typed_as storable s))
    (λ t y. found_then (TypedStand ts) (OutlineStands ts) (typed_views vs) _ (all_stand ts vs g) (λ ws i. (h, i))))
parts_stand ts at (Some a) (Some s) None vs h g = tt
parts_stand ts at (Some a) None b vs h g = tt
parts_stand ts at None s b vs h g = tt

outline_stands : (ts : Trees) → FoundHas (OutlineStands ts) (outline (seq ts))
outline_stands ts =
    found_then (SectionsStand ts) (OutlineStands ts) (with_sections no_contents (nodes_of.sections ts 1)) _
    (sections_stand ts 0 ts no_contents (λ i t e. ap (slice_get (typings ts)) (omega arith) ∙ e) (tt, tt))
    (λ c h. parts_stand ts 0 c.parameter c.storage c.code c.views h.0 h.1)

-- ---- accepted scripts

not_faulty : (at : ℕ) (t : Typing) (r : Kind) → body_fault at t r ≡ None → IsTyped t
not_faulty at (goes B) r e = tt
not_faulty at fails r e = tt
not_faulty at (bad l) r e = absurd cc

body_typed : (small : Bool) (c : Context) (a r : Kind) (b : Body) → fault_of_body small c a r b ≡ None → IsTyped (b.typing c (a ∷ []))
body_typed true c a r b e = not_faulty b.location (b.typing c (a ∷ [])) r e
body_typed false c a r b e = absurd cc

-- the blocks of an outline whose bodies are typed, where a script stands so many nodes further on
abbrev Moved : Trees → Trees → ℕ → Type 0
Moved us ts n = (l : ℕ) (c : Context) (A : List Kind) → 1 ≤ l → IsTyped (typing_in ts (block l c A)) → IsTyped (typing_in us (block (n + l) c A))

views_typed : (us ts : Trees) (n : ℕ) → Moved us ts n → (s : Kind) (vs : List TypedView) → TypedStand ts vs → AllTried s vs → AllTyped us (view_blocks n s vs)
views_typed us ts n m s [] h g = tt
views_typed us ts n m s (v ∷ vs) h g = (
  m v.body.location place.view (pair v.input s ∷ []) h.0.0
      (h.0.1 place.view (pair v.input s ∷ []) (body_typed (is_small (pair v.input s)) place.view (pair v.input s) v.output v.body g.0)),
  views_typed us ts n m s vs h.1 g.1,
)

outline_typed : (us ts : Trees) (n : ℕ) → Moved us ts n → (o : Outline) → OutlineStands ts o → code_fault o ≡ None → AllTried o.storage o.views →
    AllTyped us (outline_blocks n o)
outline_typed us ts n m o h e g =
    let begins : List Kind = pair o.parameter o.storage ∷ [] in (
      m o.code.location (place.main o.entries) begins h.0.0
          (h.0.1 (place.main o.entries) begins (body_typed _ (place.main o.entries) (pair o.parameter o.storage) (pair (list operation) o.storage) o.code e)),
      views_typed us ts n m o.storage o.views h.1 g,
    )

has : {A : Type 0} (P : A → Type 0) (q : Found A) (x : A) → q ≡ found x → FoundHas P q → P x
has P q x e h = subst (FoundHas P) e h

script_typed : (us ts : Trees) (n : ℕ) → Moved us ts n → (s : Script) → script (seq ts) ≡ found s → AllTyped us (script_blocks n (seq ts))
script_typed us ts n m s e =
    let o = outlined (seq ts) s e in
    let stands : OutlineStands ts o.types = has (OutlineStands ts) (outline (seq ts)) o.types o.is (outline_stands ts) in
    subst (λ q. AllTyped us (blocks_of.on_found q (outline_blocks n))) (sym o.is)
    (outline_typed us ts n m o.types stands o.code (all_tried o.types.storage o.types.views o.views o.checked))

pub scripts : (ts : Trees) (s : Script) → script (seq ts) ≡ found s → AllTyped ts (script_blocks 0 (seq ts))
scripts ts s e =
    script_typed ts ts 0 (λ l c A some h. subst (λ k. IsTyped (typing_in ts (block k c A))) (omega arith) h) s e

-- ---- CREATE_CONTRACT

under_one : (ts : Trees) → Moved (more (seq ts) none) ts 1
under_one ts ℕ.zero c A some h = let no : ⊥ = omega (arith, some) in absurd no
under_one ts (ℕ.suc l) c A some h = by (slice_get (typings ts) l) refl (subst (λ i. IsTyped (typing_of (slice_get (typings ts) i) c A)) (one_less l) h)
  where
    one_less : (l : ℕ) → ℕ.suc l - 1 ≡ l
    one_less l = omega arith

    by : (o : Option Typer) → slice_get (typings ts) l ≡ o → IsTyped (typing_of o c A) → IsTyped (typing_in (more (seq ts) none) (block (1 + ℕ.suc l) c A))
    by None e h = absurd h
    by (Some t) e h =
        let there : slice_get (typings (more (seq ts) none)) (ℕ.suc l) ≡ Some t = get_within (typings ts) [] l t e in
        let same : 1 + ℕ.suc l - 1 ≡ ℕ.suc l = omega arith in
        subst IsTyped (sym (ap (λ i. typing_of (slice_get (typings (more (seq ts) none)) i) c A) same ∙ ap (λ o. typing_of o c A) there)) h

pub is_found : (q : Found Script) (g : Kind) (A : List Kind) → IsTyped (of_script q g A) → (s : Script) × (q ≡ found s)
is_found (found s) g A h = (s, refl)
is_found (fault l) g A h = absurd h

pub not_moved : (at : ℕ) (q : Found Script) (s : Script) → found_at at q ≡ found s → q ≡ found s
not_moved at (found x) s e = e
not_moved at (fault l) s e = absurd cc

pub origination_typed : (A : List Kind) (next : Kind → List Kind → Typing) → IsTyped (on_origination A next) → (g : Kind) × (B : List Kind) × IsTyped (next g B)
origination_typed (k.option types.key_hash ∷ types.mutez ∷ g ∷ A) next h = (g, A, h)
origination_typed _ next h = absurd h

create_typed : (t : Tree) (A : List Kind) → IsTyped (on_origination A (λ g A. of_script (script_in (more t none) 1) g A)) → AllTyped (more t none) (script_blocks 1 t)
create_typed (seq ts) A h =
    let o = origination_typed A _ h in
    let s = is_found (script_in (more (seq ts) none) 1) o.0 o.1 o.2 in
    script_typed (more (seq ts) none) ts 1 (under_one ts) s.0 (not_moved 1 (script (seq ts)) s.0 s.1)
create_typed (int n) A h = let o = origination_typed A _ h in absurd o.2
create_typed (str n) A h = let o = origination_typed A _ h in absurd o.2
create_typed (bytes n) A h = let o = origination_typed A _ h in absurd o.2
create_typed (prim name annots ts) A h = let o = origination_typed A _ h in absurd o.2

arguments_typed : (ts : Trees) (c : Context) (A : List Kind) →
    IsTyped (one_body (bodies ts 1) (λ b. on_origination A (λ g A. of_script (script_in ts 1) g A))) → AllTyped ts (blocks f.create_contract ts c A)
arguments_typed (more t none) c A h = create_typed t A h
arguments_typed none c A h = tt
arguments_typed (more t (more u ts)) c A h = tt

pub creates : (ts : Trees) (c : Context) (A : List Kind) →
    IsTyped (outside_views c (one_body (bodies ts 1) (λ b. on_origination A (λ g A. of_script (script_in ts 1) g A)))) → AllTyped ts (blocks f.create_contract ts c A)
creates ts (place.main es) A h = arguments_typed ts (place.main es) A h
creates ts place.lambda A h = arguments_typed ts place.lambda A h
creates ts place.view A h = absurd h
