-- Each name in a script that is typed is a primitive's, where typed bodies in it have such names.
use Rattle.std.proofs.Common.{◌≡◌, ℕ, ◌+◌, Bool, true, false, cond, Option, Some, None, List, [], ◌∷◌, ◌++◌, refl, sym, subst}
use Rattle.std.specs.Prelude.{codes}
use Rattle.std.specs.Str.{bytes_eq}
use Rattle.std.proofs.lemmas.Slice.Eq.{bytes_eq-Decides}
use Rattle.rules_text.specs.nodes.Tree.{Tree, int, str, bytes, prim, seq, Trees, none, more, size}
use Rattle.rules_text.specs.nodes.Primitives.{primitive_of_name, code_of_name, primitive_names}
use Rattle.rules_text.specs.declared.nodes.Primitive.{Primitive}
use Rattle.rules_text.specs.declared.nodes.Primitive.TheVariants as p
use Rattle.rules_data.specs.types.Kind.{Kind, pair}
use Rattle.rules_data.specs.types.Attributes.{storable, packable}
use Rattle.rules_data.specs.types.Reading.{type_at}
use Rattle.rules_data.specs.types.Reading as reading
use Rattle.rules_data.specs.types.Entrypoints as entry
use Rattle.rules_code.specs.instructions.Context.{Context, view}
use Rattle.rules_code.specs.instructions.Arguments.{Found, found, fault, and_then, is_view_name}
use Rattle.rules_code.specs.typing.Typing.{Typer}
use Rattle.rules_code.specs.typing.Sections.{Section, Placed, Body, WrittenView, Content, parameter_section, storage_section, code_section, view_section, no_section, placed, a_body, content_of, content_at, Contents, no_contents, once, view_named, with_content, with_sections}
use Rattle.rules_code.specs.typing.Scripts.{Script, Entered, of_parameter, parameter_of, typed_as, TypedView, typed_view, typed_views, Outline, with_types, of_parts, of_contents, outline_of, unless_fault, is_small, fault_of_body, code_fault, view_fault, a_view, with_views, a_script, with_bodies}
use Rattle.laws_typing.specs.packing.Laws.{IsTyped}
use Rattle.laws_typing.specs.packing.Names.{HasCodes}
use Rattle.laws_typing.proofs.packing_lemmas.Known.{IsKnown, of_primitive}
use Rattle.laws_typing.proofs.packing_lemmas.Types.{type_codes, argument_codes}
use Rattle.laws_typing.proofs.packing_lemmas.Parts.{no_fault}

-- ---- what was found

record Both {A B : Type 0} (f : Found A) (next : A → Found B) (y : B) : Type 0 where
  value : A
  is : f ≡ found value
  goes : next value ≡ found y

both : {A B : Type 0} (f : Found A) (next : A → Found B) (y : B) → and_then f next ≡ found y → Both f next y
both (found x) next y e = record { value = x; is = refl; goes = e }
both (fault l) next y e = absurd cc

found_same : {A : Type 0} (x y : A) → found x ≡ found y → x ≡ y
found_same x y e = cc

-- ---- bodies and types that have such names

-- a body that is typed has them
abbrev pub IsHonest : Tree → Typer → Type 0
IsHonest t typing = (c : Context) (A : List Kind) → IsTyped (typing c A) → HasCodes t

abbrev HonestBody : Body → Type 0
HonestBody b = IsHonest b.node b.typing

abbrev HonestView : WrittenView → Type 0
HonestView v = HonestBody v.body

-- what the contents of a script have
abbrev CodedView : WrittenView → Type 0
CodedView v = HasCodes v.input.node × HasCodes v.output.node × HasCodes v.body.node

abbrev AllViews : (WrittenView → Type 0) → List WrittenView → Type 0
AllViews P [] = Unit {0}
AllViews P (v ∷ vs) = P v × AllViews P vs

abbrev OnSome : {A : Type 0} → (A → Type 0) → Option A → Type 0
OnSome P None = Unit {0}
OnSome P (Some x) = P x

record HonestContents (c : Contents) : Type 0 where
  code : OnSome HonestBody c.code
  views : AllViews HonestView c.views

record CodedContents (c : Contents) : Type 0 where
  parameter : OnSome (λ s. HasCodes s.node) c.parameter
  storage : OnSome (λ s. HasCodes s.node) c.storage
  code : OnSome (λ b. HasCodes b.node) c.code
  views : AllViews CodedView c.views

views_more : (P : WrittenView → Type 0) (vs : List WrittenView) (v : WrittenView) → AllViews P vs → P v → AllViews P (vs ++ v ∷ [])
views_more P [] v h q = (q, tt)
views_more P (w ∷ vs) v h q = (h.0, views_more P vs v h.1 q)

views_less : (P : WrittenView → Type 0) (vs : List WrittenView) (v : WrittenView) → AllViews P (vs ++ v ∷ []) → AllViews P vs × P v
views_less P [] v h = (tt, h.0)
views_less P (w ∷ vs) v h = let r = views_less P vs v h.1 in ((h.0, r.0), r.1)

-- ---- one section

abbrev HonestContent : Content → Type 0
HonestContent (parameter_section s) = Unit {0}
HonestContent (storage_section s) = Unit {0}
HonestContent (code_section b) = HonestBody b
HonestContent (view_section v) = HonestView v
HonestContent no_section = Unit {0}

abbrev CodedContent : Content → Type 0
CodedContent (parameter_section s) = HasCodes s.node
CodedContent (storage_section s) = HasCodes s.node
CodedContent (code_section b) = HasCodes b.node
CodedContent (view_section v) = CodedView v
CodedContent no_section = ⊥

-- arguments with their typings
abbrev pub AreHonest : Trees → List Typer → Type 0
AreHonest none bs = bs ≡ []
AreHonest (more t ts) [] = ⊥
AreHonest (more t ts) (b ∷ bs) = IsHonest t b × AreHonest ts bs

abbrev pub HonestArguments : Tree → List Typer → Type 0
HonestArguments (prim name annots ts) bs = AreHonest ts bs
HonestArguments t bs = Unit {0}

module _ (name : List ℕ) (annots : List (List ℕ)) (at : ℕ) where
  content_honest : (o : Option Primitive) (args : Trees) (bs : List Typer) → AreHonest args bs → HonestContent (content_of o at (prim name annots args) args bs)
  content_honest (Some p.SectionParameter) (more u none) bs h = tt
  content_honest (Some p.SectionParameter) none bs h = tt
  content_honest (Some p.SectionParameter) (more u (more w ts)) bs h = tt
  content_honest (Some p.SectionStorage) (more u none) bs h = tt
  content_honest (Some p.SectionStorage) none bs h = tt
  content_honest (Some p.SectionStorage) (more u (more w ts)) bs h = tt
  content_honest (Some p.SectionCode) (more (seq ts) none) (b ∷ []) h = h.0
  content_honest (Some p.SectionCode) (more (seq ts) none) [] h = tt
  content_honest (Some p.SectionCode) (more (seq ts) none) (b ∷ d ∷ bs) h = tt
  content_honest (Some p.SectionCode) (more (seq ts) (more w us)) bs h = tt
  content_honest (Some p.SectionCode) (more (int n) us) bs h = tt
  content_honest (Some p.SectionCode) (more (str s) us) bs h = tt
  content_honest (Some p.SectionCode) (more (bytes s) us) bs h = tt
  content_honest (Some p.SectionCode) (more (prim m ns vs) us) bs h = tt
  content_honest (Some p.SectionCode) none bs h = tt
  content_honest (Some p.SectionView) (more (str s) (more u (more w (more (seq ts) none)))) (n ∷ i ∷ o ∷ b ∷ []) h = by (is_view_name s)
    where
      by : (x : Bool) → HonestContent (cond x (view_section record { name = s; input = placed (at + 2) u; output = placed (at + 2 + size u) w; body = a_body (at + 2 + size u + size w) (seq ts) b }) no_section)
      by true = h.1.1.1.0
      by false = tt
  content_honest (Some p.SectionView) _ _ h = tt
  content_honest _ args bs h = tt

  content_codes : (o : Option Primitive) (args : Trees) (bs : List Typer) → primitive_of_name name ≡ o →
      CodedContent (content_of o at (prim name annots args) args bs) → HasCodes (prim name annots args)
  content_codes (Some p.SectionParameter) (more u none) bs e h = h
  content_codes (Some p.SectionParameter) none bs e h = absurd h
  content_codes (Some p.SectionParameter) (more u (more w ts)) bs e h = absurd h
  content_codes (Some p.SectionStorage) (more u none) bs e h = (of_primitive name p.SectionStorage e, (h, tt))
  content_codes (Some p.SectionStorage) none bs e h = absurd h
  content_codes (Some p.SectionStorage) (more u (more w ts)) bs e h = absurd h
  content_codes (Some p.SectionCode) (more (seq ts) none) (b ∷ []) e h = (of_primitive name p.SectionCode e, (h, tt))
  content_codes (Some p.SectionCode) (more (seq ts) none) [] e h = absurd h
  content_codes (Some p.SectionCode) (more (seq ts) none) (b ∷ d ∷ bs) e h = absurd h
  content_codes (Some p.SectionCode) (more (seq ts) (more w us)) bs e h = absurd h
  content_codes (Some p.SectionCode) (more (int n) us) bs e h = absurd h
  content_codes (Some p.SectionCode) (more (str s) us) bs e h = absurd h
  content_codes (Some p.SectionCode) (more (bytes s) us) bs e h = absurd h
  content_codes (Some p.SectionCode) (more (prim m ns vs) us) bs e h = absurd h
  content_codes (Some p.SectionCode) none bs e h = absurd h
  content_codes (Some p.SectionView) (more (str s) (more u (more w (more (seq ts) none)))) (n ∷ i ∷ o ∷ b ∷ []) e h = by (is_view_name s) h
    where
      by : (x : Bool) → CodedContent (cond x (view_section record { name = s; input = placed (at + 2) u; output = placed (at + 2 + size u) w; body = a_body (at + 2 + size u + size w) (seq ts) b }) no_section) →
          HasCodes (prim name annots (more (str s) (more u (more w (more (seq ts) none)))))
      by true h = (of_primitive name p.SectionView e, (tt, (h.0, (h.1, (h.2, tt)))))
      by false h = absurd h
  content_codes (Some p.SectionView) _ _ e h = absurd h
  content_codes _ args bs e h = absurd h

at_honest : (at : ℕ) (t : Tree) (bs : List Typer) → HonestArguments t bs → HonestContent (content_at at t bs)
at_honest at (prim name annots args) bs h = content_honest name annots at (primitive_of_name name) args bs h
at_honest at (int n) bs h = tt
at_honest at (str s) bs h = tt
at_honest at (bytes s) bs h = tt
at_honest at (seq ts) bs h = tt

at_codes : (at : ℕ) (t : Tree) (bs : List Typer) → CodedContent (content_at at t bs) → HasCodes t
at_codes at (prim name annots args) bs h = content_codes name annots at (primitive_of_name name) args bs refl h
at_codes at (int n) bs h = absurd h
at_codes at (str s) bs h = absurd h
at_codes at (bytes s) bs h = absurd h
at_codes at (seq ts) bs h = absurd h

-- ---- the sections so far

record Added (c d : Contents) (x : Content) : Type 0 where
  honest : HonestContents c → HonestContent x → HonestContents d
  coded : CodedContents d → CodedContents c × CodedContent x

added : (c d : Contents) (at : ℕ) (x : Content) → with_content c at x ≡ found d → Added c d x
added c d at (parameter_section s) e = by c.parameter refl e
  where
    by : (o : Option Placed) → c.parameter ≡ o → once at o record c { parameter = Some s } ≡ found d → Added c d (parameter_section s)
    by (Some earlier) r e = absurd cc
    by None r e = subst (λ f. Added c f (parameter_section s)) (found_same (record c { parameter = Some s }) d e) record {
      honest = λ h x. record { code = h.code; views = h.views };
      coded = λ h. (record { parameter = subst (OnSome (λ s. HasCodes s.node)) (sym r) tt; storage = h.storage; code = h.code; views = h.views }, h.parameter);
    }
added c d at (storage_section s) e = by c.storage refl e
  where
    by : (o : Option Placed) → c.storage ≡ o → once at o record c { storage = Some s } ≡ found d → Added c d (storage_section s)
    by (Some earlier) r e = absurd cc
    by None r e = subst (λ f. Added c f (storage_section s)) (found_same (record c { storage = Some s }) d e) record {
      honest = λ h x. record { code = h.code; views = h.views };
      coded = λ h. (record { parameter = h.parameter; storage = subst (OnSome (λ s. HasCodes s.node)) (sym r) tt; code = h.code; views = h.views }, h.storage);
    }
added c d at (code_section b) e = by c.code refl e
  where
    by : (o : Option Body) → c.code ≡ o → once at o record c { code = Some b } ≡ found d → Added c d (code_section b)
    by (Some earlier) r e = absurd cc
    by None r e = subst (λ f. Added c f (code_section b)) (found_same (record c { code = Some b }) d e) record {
      honest = λ h x. record { code = x; views = h.views };
      coded = λ h. (record { parameter = h.parameter; storage = h.storage; code = subst (OnSome (λ b. HasCodes b.node)) (sym r) tt; views = h.views }, h.code);
    }
added c d at (view_section v) e = by (view_named v.name c.views) e
  where
    by : (o : Option WrittenView) → once at o record c { views = c.views ++ v ∷ [] } ≡ found d → Added c d (view_section v)
    by (Some earlier) e = absurd cc
    by None e = subst (λ f. Added c f (view_section v)) (found_same (record c { views = c.views ++ v ∷ [] }) d e) record {
      honest = λ h x. record { code = h.code; views = views_more HonestView c.views v h.views x };
      coded = λ h. let r = views_less CodedView c.views v h.views in (record { parameter = h.parameter; storage = h.storage; code = h.code; views = r.0 }, r.1);
    }
added c d at no_section e = absurd cc

abbrev pub AllSections : (Section → Type 0) → List Section → Type 0
AllSections P [] = Unit {0}
AllSections P (s ∷ ss) = P s × AllSections P ss

abbrev pub HonestSection : Section → Type 0
HonestSection s = HonestArguments s.node s.arguments

record Gathered (c d : Contents) (ss : List Section) : Type 0 where
  honest : HonestContents c → HonestContents d
  coded : CodedContents d → CodedContents c × AllSections (λ s. HasCodes s.node) ss

gathered : (ss : List Section) (c d : Contents) → AllSections HonestSection ss → with_sections c ss ≡ found d → Gathered c d ss
gathered [] c d h e = subst (λ f. Gathered c f []) (found_same c d e) record { honest = λ x. x; coded = λ x. (x, tt) }
gathered (s ∷ ss) c d h e =
    let x = content_at s.location s.node s.arguments in
    let b = both (with_content c s.location x) (λ f. with_sections f ss) d e in
    let first = added c b.value s.location x b.is in
    let rest = gathered ss b.value d h.1 b.goes in
    record {
      honest = λ g. rest.honest (first.honest g (at_honest s.location s.node s.arguments h.0));
      coded = λ g. let r = rest.coded g in let f = first.coded r.0 in (f.0, (at_codes s.location s.node s.arguments f.1, r.1));
    }

-- ---- types and bodies

parameter_known : IsKnown (codes "parameter")
unfolding code_of_name primitive_names
parameter_known = refl

parameter_name : (name : List ℕ) → bytes_eq name (codes "parameter") ≡ true → IsKnown name
parameter_name name e = subst IsKnown (sym ((bytes_eq-Decides name (codes "parameter")).0 e)) parameter_known

parameter_codes : (t : Tree) (a : Kind) (es : List entry.Entry) → entry.parameter t ≡ entry.a_parameter a es → HasCodes t
parameter_codes (int n) a es e = absurd cc
parameter_codes (str s) a es e = absurd cc
parameter_codes (bytes b) a es e = absurd cc
parameter_codes (seq ts) a es e = absurd cc
parameter_codes (prim name annots args) a es e = by (bytes_eq name (codes "parameter")) refl args e
  where
    read : (t : Tree) (r : reading.Reading) → type_at 1 t ≡ r → entry.of_reading annots t r ≡ entry.a_parameter a es → HasCodes t
    read t (reading.a_type b) s e = type_codes 1 t b s
    read t (reading.bad_type l) s e = absurd cc
    read t reading.too_large s e = absurd cc

    by : (x : Bool) → bytes_eq name (codes "parameter") ≡ x → (args : Trees) → entry.of_section x annots args ≡ entry.a_parameter a es → HasCodes (prim name annots args)
    by true s (more t none) e = (parameter_name name s, (read t (type_at 1 t) refl e, tt))
    by true s none e = absurd cc
    by true s (more t (more u us)) e = absurd cc
    by false s args e = absurd cc

entered_codes : (s : Placed) (e : Entered) → parameter_of s ≡ found e → HasCodes s.node
entered_codes s e h = by (entry.parameter s.node) refl h
  where
    by : (q : entry.Parameter) → entry.parameter s.node ≡ q → of_parameter s.location q ≡ found e → HasCodes s.node
    by (entry.a_parameter a es) r h = parameter_codes s.node a es r
    by (entry.bad_parameter l) r h = absurd cc
    by entry.large_parameter r h = absurd cc
    by (entry.repeated_entrypoint l) r h = absurd cc

body_codes : (small : Bool) (c : Context) (a r : Kind) (b : Body) → HonestBody b → fault_of_body small c a r b ≡ None → HasCodes b.node
body_codes true c a r b h e = h c (a ∷ []) (no_fault b.location (b.typing c (a ∷ [])) r e)
body_codes false c a r b h e = absurd cc

passed : {A : Type 0} (o : Option ℕ) (f : Found A) (y : A) → unless_fault o f ≡ found y → (o ≡ None) × (f ≡ found y)
passed None f y e = (refl, e)
passed (Some l) f y e = absurd cc

views_codes : (s : Kind) (vs : List WrittenView) (ws : List TypedView) (us : List Rattle.rules_code.specs.typing.Scripts.View) → AllViews HonestView vs →
    typed_views vs ≡ found ws → with_views s ws ≡ found us → AllViews CodedView vs
views_codes s [] ws us h e g = tt
views_codes s (v ∷ vs) ws us h e g =
    let first = both (typed_view v) (λ t. and_then (typed_views vs) (λ ts. found (t ∷ ts))) ws e in
    let rest = both (typed_views vs) (λ ts. found (first.value ∷ ts)) ws first.goes in
    let input = both (typed_as packable v.input) (λ a. and_then (typed_as packable v.output) (λ b. found record { name = v.name; input = a; output = b; body = v.body })) first.value first.is in
    let output = both (typed_as packable v.output) (λ b. found record { name = v.name; input = input.value; output = b; body = v.body }) first.value input.goes in
    let whole = subst (λ x. with_views s x ≡ found us) (sym (found_same (first.value ∷ rest.value) ws rest.goes)) g in
    let split = passed (view_fault s first.value) (and_then (with_views s rest.value) (λ xs. found (a_view first.value ∷ xs))) us whole in
    let others = both (with_views s rest.value) (λ xs. found (a_view first.value ∷ xs)) us split.1 in
    let typed : record { name = v.name; input = input.value; output = output.value; body = v.body } ≡ first.value = found_same _ first.value output.goes in
    let none : view_fault s record { name = v.name; input = input.value; output = output.value; body = v.body } ≡ None =
    subst (λ t. view_fault s t ≡ None) (sym typed) split.0 in (
      (
        argument_codes packable v.input.location v.input.node input.value input.is,
        argument_codes packable v.output.location v.output.node output.value output.is,
        body_codes (is_small (pair input.value s)) view (pair input.value s) output.value v.body h.0 none,
      ),
      views_codes s vs rest.value others.value h.1 rest.is others.is,
    )

contents_codes : (at : ℕ) (c : Contents) (o : Outline) (x : Script) → HonestContents c → of_contents at c ≡ found o → with_bodies o ≡ found x → CodedContents c
contents_codes at c o x h e g = by c.parameter c.storage c.code refl refl refl e
  where
    by : (a s : Option Placed) (b : Option Body) → c.parameter ≡ a → c.storage ≡ s → c.code ≡ b → of_parts at a s b c.views ≡ found o → CodedContents c
    by (Some a) (Some s) (Some b) i j k e =
        let first = both (parameter_of a) (λ e. and_then (typed_as storable s) (λ t. and_then (typed_views c.views) (λ ws. found (with_types e t ws b)))) o e in
        let second = both (typed_as storable s) (λ t. and_then (typed_views c.views) (λ ws. found (with_types first.value t ws b))) o first.goes in
        let third = both (typed_views c.views) (λ ws. found (with_types first.value second.value ws b)) o second.goes in
        let same : with_types first.value second.value third.value b ≡ o = found_same _ o third.goes in
        let bodies = subst (λ o. with_bodies o ≡ found x) (sym same) g in
        let out : Outline = with_types first.value second.value third.value b in
        let split = passed (code_fault out) (and_then (with_views out.storage out.views) (λ vs. found (a_script out vs))) x bodies in
        let views = both (with_views second.value third.value) (λ vs. found (a_script out vs)) x split.1 in
        record {
          parameter = subst (OnSome (λ s. HasCodes s.node)) (sym i) (entered_codes a first.value first.is);
          storage = subst (OnSome (λ s. HasCodes s.node)) (sym j) (argument_codes storable s.location s.node second.value second.is);
          code = subst (OnSome (λ b. HasCodes b.node)) (sym k) (body_codes _ _ _ _ b (subst (OnSome HonestBody) k h.code) split.0);
          views = views_codes second.value c.views third.value views.value h.views third.is views.is;
        }
    by None s b i j k e = absurd cc
    by (Some a) None b i j k e = absurd cc
    by (Some a) (Some s) None i j k e = absurd cc

no_contents_honest : HonestContents no_contents
no_contents_honest = record { code = tt; views = tt }

-- the sections of a script that is typed
pub sections_codes : (at : ℕ) (ss : List Section) (x : Script) → AllSections HonestSection ss → and_then (outline_of at ss) with_bodies ≡ found x →
    AllSections (λ s. HasCodes s.node) ss
sections_codes at ss x h e =
    let outer = both (outline_of at ss) with_bodies x e in
    let inner = both (with_sections no_contents ss) (of_contents at) outer.value outer.is in
    let all = gathered ss no_contents inner.value h inner.is in
    (all.coded (contents_codes at inner.value outer.value x (all.honest no_contents_honest) inner.goes outer.goes)).1
