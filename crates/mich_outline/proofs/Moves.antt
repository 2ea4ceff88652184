-- A script is typed alike at each location, but for the locations of its faults.
use Rattle.std.proofs.Common.{◌≡◌, ℕ, ◌+◌, Bool, true, false, ◌&&◌, List, [], ◌∷◌, ◌++◌, Option, Some, None, refl, ap, sym, ◌∙◌, subst, arith, add_assoc}
use Rattle.std.specs.Prelude.{if◌then◌else◌}
use Rattle.std.specs.Str.{bytes_eq}
use Rattle.rules_text.specs.nodes.Tree.{Tree, int, str, bytes, prim, seq, Trees, none, more, size}
use Rattle.rules_text.specs.nodes.Primitives.{primitive_of_name}
use Rattle.rules_text.specs.declared.nodes.Primitive.{Primitive}
use Rattle.rules_text.specs.declared.nodes.Primitive.TheVariants as p
use Rattle.rules_data.specs.types.Kind.{Kind, operation, pair, list}
use Rattle.rules_data.specs.types.Attributes.{storable, packable}
use Rattle.rules_data.specs.types.Reading.{Reading, a_type, bad_type, too_large, type_at}
use Rattle.rules_data.specs.types.Entrypoints.{Parameter, a_parameter, bad_parameter, large_parameter, repeated_entrypoint, parameter}
use Rattle.rules_code.specs.instructions.Context.{Context, main}
use Rattle.rules_code.specs.instructions.Context as place
use Rattle.rules_code.specs.instructions.Arguments.{Found, found, fault, and_then, with_attribute, type_argument, is_view_name}
use Rattle.rules_code.specs.instructions.Same.{same_kinds}
use Rattle.rules_code.specs.typing.Typing.{Typing, goes, fails, bad, Typer, shift}
use Rattle.rules_code.specs.typing.Bodies.{body_fault}
use Rattle.rules_code.specs.typing.Sections.{Placed, Body, WrittenView, Content, parameter_section, storage_section, code_section, view_section, no_section, placed, a_body, view_content, content_of, content_at, Contents, no_contents, once, view_named, with_content, with_sections}
use Rattle.rules_code.specs.typing.Scripts.{View, of_parameter, parameter_of, typed_as, TypedView, typed_view, typed_views, Outline, with_types, of_parts, of_contents, outline_of, unless_fault, is_small, fault_of_body, code_fault, view_fault, a_view, with_views, a_script, with_bodies}
use Rattle.rules_code.specs.typing.Nodes.{found_at, body, bodies, inner_bodies, sections, script_at, trees_type}
use Rattle.mich_outline.proofs.Shifts.{type_at_from, reading_from}
use Rattle.mich_outline.specs.Outlines.{outline_at}

-- a script's typing from its outline
pub script_is : (at : ℕ) (t : Tree) → script_at t at ≡ and_then (outline_at at t) with_bodies
script_is at (int n) = refl
script_is at (str s) = refl
script_is at (bytes b) = refl
script_is at (prim name annots ts) = refl
script_is at (seq ts) = refl

shift_shift : (k j : ℕ) (t : Typing) → shift k (shift j t) ≡ shift (k + j) t
shift_shift k j (goes B) = refl
shift_shift k j fails = refl
shift_shift k j (bad l) =
    let e : k + (j + l) ≡ k + j + l = omega arith in
    ap bad e

body_moves : (n k : ℕ) (t : Tree) (c : Context) (A : List Kind) → body t (n + k) c A ≡ shift n (body t k c A)
body_moves n k (int z) c A = refl
body_moves n k (str s) c A = refl
body_moves n k (bytes b) c A = refl
body_moves n k (prim name annots ts) c A = refl
body_moves n k (seq ts) c A =
    let e : n + k + 1 ≡ n + (k + 1) = omega arith in
    ap (λ m. shift m (trees_type ts c A)) e ∙ sym (shift_shift n (k + 1) (trees_type ts c A))

module _ (n : ℕ) where
  -- the same, but for typings and faults n locations further on
  abbrev Typed : Typer → Typer → Type 0
  Typed f g = (c : Context) (A : List Kind) → f c A ≡ shift n (g c A)

  abbrev AllTyped : List Typer → List Typer → Type 0
  AllTyped [] [] = Unit {0}
  AllTyped (f ∷ fs) (g ∷ gs) = Typed f g × AllTyped fs gs
  AllTyped fs gs = ⊥

  abbrev Moved : {A : Type 0} → (A → A → Type 0) → Found A → Found A → Type 0
  Moved R (found x) (found y) = R x y
  Moved R (fault l) (fault m) = l ≡ n + m
  Moved R x y = ⊥

  abbrev Both : {A : Type 0} → (A → A → Type 0) → Option A → Option A → Type 0
  Both R (Some x) (Some y) = R x y
  Both R None None = Unit {0}
  Both R x y = ⊥

  abbrev Each : {A : Type 0} → (A → A → Type 0) → List A → List A → Type 0
  Each R [] [] = Unit {0}
  Each R (x ∷ xs) (y ∷ ys) = R x y × Each R xs ys
  Each R xs ys = ⊥

  abbrev PlacedMoved : Placed → Placed → Type 0
  PlacedMoved s u = (s.location ≡ n + u.location) × (s.node ≡ u.node)

  abbrev BodyMoved : Body → Body → Type 0
  BodyMoved s u = (s.location ≡ n + u.location) × (s.node ≡ u.node) × Typed s.typing u.typing

  abbrev WrittenMoved : WrittenView → WrittenView → Type 0
  WrittenMoved s u = (s.name ≡ u.name) × PlacedMoved s.input u.input × PlacedMoved s.output u.output × BodyMoved s.body u.body

  abbrev ContentMoved : Content → Content → Type 0
  ContentMoved (parameter_section s) (parameter_section u) = PlacedMoved s u
  ContentMoved (storage_section s) (storage_section u) = PlacedMoved s u
  ContentMoved (code_section s) (code_section u) = BodyMoved s u
  ContentMoved (view_section s) (view_section u) = WrittenMoved s u
  ContentMoved no_section no_section = Unit {0}
  ContentMoved x y = ⊥

  record ContentsMoved (c d : Contents) : Type 0 where
    parameter : Both PlacedMoved c.parameter d.parameter
    storage : Both PlacedMoved c.storage d.storage
    code : Both BodyMoved c.code d.code
    views : Each WrittenMoved c.views d.views

  then_moves : {A B : Type 0} (R : A → A → Type 0) (Q : B → B → Type 0) (x y : Found A) (f g : A → Found B) →
      Moved R x y → ((a b : A) → R a b → Moved Q (f a) (g b)) → Moved Q (and_then x f) (and_then y g)
  then_moves R Q (found a) (found b) f g h k = k a b h
  then_moves R Q (found a) (fault m) f g h k = absurd h
  then_moves R Q (fault l) (found b) f g h k = absurd h
  then_moves R Q (fault l) (fault m) f g h k = h

  -- ---- sections

  bodies_move : (k : ℕ) (ts : Trees) → AllTyped (bodies ts (n + k)) (bodies ts k)
  bodies_move k none = tt
  bodies_move k (more t ts) =
      ((λ c A. body_moves n k t c A), subst (λ m. AllTyped (bodies ts m) (bodies ts (k + size t))) (sym (add_assoc n k (size t))) (bodies_move (k + size t) ts))

  view_moves : (k : ℕ) (name : List ℕ) (u w b : Tree) (f g : Typer) → Typed f g → ContentMoved (view_content (n + k) name u w b f) (view_content k name u w b g)
  view_moves k name u w b f g h = by (is_view_name name)
    where
      input : n + k + 2 ≡ n + (k + 2)
      input = omega arith

      output : n + k + 2 + size u ≡ n + (k + 2 + size u)
      output = omega arith

      code : n + k + 2 + size u + size w ≡ n + (k + 2 + size u + size w)
      code = omega arith

      by : (x : Bool) → ContentMoved
          (if x then view_section record { name = name; input = placed (n + k + 2) u; output = placed (n + k + 2 + size u) w; body = a_body (n + k + 2 + size u + size w) b f } else no_section)
          (if x then view_section record { name = name; input = placed (k + 2) u; output = placed (k + 2 + size u) w; body = a_body (k + 2 + size u + size w) b g } else no_section)
      by true = (refl, (input, refl), (output, refl), (code, refl, h))
      by false = tt

  content_moves : (o : Option Primitive) (k : ℕ) (t : Tree) (args : Trees) (fs gs : List Typer) → AllTyped fs gs → ContentMoved (content_of o (n + k) t args fs) (content_of o k t args gs)
  content_moves (Some p.SectionParameter) k t (more u none) fs gs h = (refl, refl)
  content_moves (Some p.SectionStorage) k t (more u none) fs gs h = (add_assoc n k 1, refl)
  content_moves (Some p.SectionCode) k t (more (seq ts) none) (f ∷ []) (g ∷ []) h = (add_assoc n k 1, refl, h.0)
  content_moves (Some p.SectionCode) k t (more (seq ts) none) [] [] h = tt
  content_moves (Some p.SectionCode) k t (more (seq ts) none) (f ∷ fs) [] h = absurd h
  content_moves (Some p.SectionCode) k t (more (seq ts) none) [] (g ∷ gs) h = absurd h
  content_moves (Some p.SectionCode) k t (more (seq ts) none) (f ∷ []) (g ∷ e ∷ gs) h = absurd h.1
  content_moves (Some p.SectionCode) k t (more (seq ts) none) (f ∷ d ∷ fs) (g ∷ []) h = absurd h.1
  content_moves (Some p.SectionCode) k t (more (seq ts) none) (f ∷ d ∷ fs) (g ∷ e ∷ gs) h = tt
  content_moves (Some p.SectionView) k t (more (str name) (more u (more w (more (seq ts) none)))) (a ∷ b ∷ c ∷ f ∷ []) (d ∷ e ∷ i ∷ g ∷ []) h = view_moves k name u w (seq ts) f g h.1.1.1.0
  content_moves (Some p.SectionView) k t (more (str name) (more u (more w (more (seq ts) none)))) fs gs h = view_typings fs gs h
    where
      view_typings : (fs gs : List Typer) → AllTyped fs gs →
          ContentMoved (content_of (Some p.SectionView) (n + k) t (more (str name) (more u (more w (more (seq ts) none)))) fs) (content_of (Some p.SectionView) k t (more (str name) (more u (more w (more (seq ts) none)))) gs)
      view_typings [] [] h = tt
      view_typings [] (g ∷ gs) h = absurd h
      view_typings (f ∷ fs) [] h = absurd h
      view_typings (a ∷ []) (b ∷ []) h = tt
      view_typings (a ∷ []) (b ∷ c ∷ gs) h = absurd h.1
      view_typings (a ∷ b ∷ fs) (c ∷ []) h = absurd h.1
      view_typings (a ∷ b ∷ []) (c ∷ d ∷ []) h = tt
      view_typings (a ∷ b ∷ []) (c ∷ d ∷ e ∷ gs) h = absurd h.1.1
      view_typings (a ∷ b ∷ c ∷ fs) (d ∷ e ∷ []) h = absurd h.1.1
      view_typings (a ∷ b ∷ c ∷ []) (d ∷ e ∷ i ∷ []) h = tt
      view_typings (a ∷ b ∷ c ∷ []) (d ∷ e ∷ i ∷ g ∷ gs) h = absurd h.1.1.1
      view_typings (a ∷ b ∷ c ∷ f ∷ fs) (d ∷ e ∷ i ∷ []) h = absurd h.1.1.1
      view_typings (a ∷ b ∷ c ∷ f ∷ []) (d ∷ e ∷ i ∷ g ∷ []) h = view_moves k name u w (seq ts) f g h.1.1.1.0
      view_typings (a ∷ b ∷ c ∷ f ∷ []) (d ∷ e ∷ i ∷ g ∷ j ∷ gs) h = absurd h.1.1.1.1
      view_typings (a ∷ b ∷ c ∷ f ∷ j ∷ fs) (d ∷ e ∷ i ∷ g ∷ []) h = absurd h.1.1.1.1
      view_typings (a ∷ b ∷ c ∷ f ∷ j ∷ fs) (d ∷ e ∷ i ∷ g ∷ l ∷ gs) h = tt
  content_moves _ k t _ _ _ h = tt

  at_moves : (k : ℕ) (t : Tree) → ContentMoved (content_at (n + k) t (inner_bodies t (n + k))) (content_at k t (inner_bodies t k))
  at_moves k (int z) = tt
  at_moves k (str s) = tt
  at_moves k (bytes b) = tt
  at_moves k (seq ts) = tt
  at_moves k (prim name annots ts) =
      content_moves (primitive_of_name name) k (prim name annots ts) ts (bodies ts (n + k + 1)) (bodies ts (k + 1))
      (subst (λ m. AllTyped (bodies ts m) (bodies ts (k + 1))) (sym (add_assoc n k 1)) (bodies_move (k + 1) ts))

  -- ---- the sections so far

  once_moves : {A : Type 0} (R : A → A → Type 0) (k : ℕ) (o q : Option A) (c d : Contents) → Both R o q → ContentsMoved c d → Moved ContentsMoved (once (n + k) o c) (once k q d)
  once_moves R k None None c d h i = i
  once_moves R k None (Some y) c d h i = absurd h
  once_moves R k (Some x) None c d h i = absurd h
  once_moves R k (Some x) (Some y) c d h i = refl

  named_moves : (name : List ℕ) (vs ws : List WrittenView) → Each WrittenMoved vs ws → Both WrittenMoved (view_named name vs) (view_named name ws)
  named_moves name [] [] h = tt
  named_moves name [] (w ∷ ws) h = absurd h
  named_moves name (v ∷ vs) [] h = absurd h
  named_moves name (v ∷ vs) (w ∷ ws) h =
      subst (λ m. Both WrittenMoved (view_named name (v ∷ vs)) (if bytes_eq m name then Some w else view_named name ws)) h.0.0 (by (bytes_eq v.name name) (named_moves name vs ws h.1))
    where
      by : (b : Bool) → Both WrittenMoved (view_named name vs) (view_named name ws) → Both WrittenMoved (if b then Some v else view_named name vs) (if b then Some w else view_named name ws)
      by true i = h.0
      by false i = i

  views_move : (vs ws : List WrittenView) (v w : WrittenView) → Each WrittenMoved vs ws → WrittenMoved v w → Each WrittenMoved (vs ++ v ∷ []) (ws ++ w ∷ [])
  views_move [] [] v w h i = (i, tt)
  views_move [] (y ∷ ys) v w h i = absurd h
  views_move (x ∷ xs) [] v w h i = absurd h
  views_move (x ∷ xs) (y ∷ ys) v w h i = (h.0, views_move xs ys v w h.1 i)

  with_moves : (k : ℕ) (c d : Contents) (x y : Content) → ContentsMoved c d → ContentMoved x y → Moved ContentsMoved (with_content c (n + k) x) (with_content d k y)
  with_moves k c d (parameter_section s) (parameter_section u) h i =
      once_moves PlacedMoved k c.parameter d.parameter (record c { parameter = Some s }) (record d { parameter = Some u }) h.parameter
      record { parameter = i; storage = h.storage; code = h.code; views = h.views }
  with_moves k c d (storage_section s) (storage_section u) h i =
      once_moves PlacedMoved k c.storage d.storage (record c { storage = Some s }) (record d { storage = Some u }) h.storage
      record { parameter = h.parameter; storage = i; code = h.code; views = h.views }
  with_moves k c d (code_section s) (code_section u) h i =
      once_moves BodyMoved k c.code d.code (record c { code = Some s }) (record d { code = Some u }) h.code
      record { parameter = h.parameter; storage = h.storage; code = i; views = h.views }
  with_moves k c d (view_section v) (view_section w) h i =
      once_moves WrittenMoved k (view_named v.name c.views) (view_named w.name d.views) (record c { views = c.views ++ v ∷ [] }) (record d { views = d.views ++ w ∷ [] })
      (subst (λ m. Both WrittenMoved (view_named v.name c.views) (view_named m d.views)) i.0 (named_moves v.name c.views d.views h.views))
      record { parameter = h.parameter; storage = h.storage; code = h.code; views = views_move c.views d.views v w h.views i }
  with_moves k c d no_section no_section h i = refl
  with_moves k c d (parameter_section s) (storage_section u) h i = absurd i
  with_moves k c d (parameter_section s) (code_section u) h i = absurd i
  with_moves k c d (parameter_section s) (view_section u) h i = absurd i
  with_moves k c d (parameter_section s) no_section h i = absurd i
  with_moves k c d (storage_section s) (parameter_section u) h i = absurd i
  with_moves k c d (storage_section s) (code_section u) h i = absurd i
  with_moves k c d (storage_section s) (view_section u) h i = absurd i
  with_moves k c d (storage_section s) no_section h i = absurd i
  with_moves k c d (code_section s) (parameter_section u) h i = absurd i
  with_moves k c d (code_section s) (storage_section u) h i = absurd i
  with_moves k c d (code_section s) (view_section u) h i = absurd i
  with_moves k c d (code_section s) no_section h i = absurd i
  with_moves k c d (view_section s) (parameter_section u) h i = absurd i
  with_moves k c d (view_section s) (storage_section u) h i = absurd i
  with_moves k c d (view_section s) (code_section u) h i = absurd i
  with_moves k c d (view_section s) no_section h i = absurd i
  with_moves k c d no_section (parameter_section u) h i = absurd i
  with_moves k c d no_section (storage_section u) h i = absurd i
  with_moves k c d no_section (code_section u) h i = absurd i
  with_moves k c d no_section (view_section u) h i = absurd i

  sections_move : (k : ℕ) (ts : Trees) (c d : Contents) → ContentsMoved c d → Moved ContentsMoved (with_sections c (sections ts (n + k))) (with_sections d (sections ts k))
  sections_move k none c d h = h
  sections_move k (more t ts) c d h =
      then_moves ContentsMoved ContentsMoved (with_content c (n + k) (content_at (n + k) t (inner_bodies t (n + k)))) (with_content d k (content_at k t (inner_bodies t k)))
      (λ a. with_sections a (sections ts (n + k + size t))) (λ b. with_sections b (sections ts (k + size t)))
      (with_moves k c d (content_at (n + k) t (inner_bodies t (n + k))) (content_at k t (inner_bodies t k)) h (at_moves k t))
      (λ a b i. subst (λ m. Moved ContentsMoved (with_sections a (sections ts m)) (with_sections b (sections ts (k + size t)))) (sym (add_assoc n k (size t))) (sections_move (k + size t) ts a b i))

  -- ---- types

  abbrev Same : {A : Type 0} → A → A → Type 0
  Same x y = x ≡ y

  of_parameter_moves : (k : ℕ) (q : Parameter) → Moved Same (of_parameter (n + k) q) (of_parameter k q)
  of_parameter_moves k (a_parameter a es) = refl
  of_parameter_moves k (bad_parameter l) = add_assoc n k l
  of_parameter_moves k large_parameter = add_assoc n k 1
  of_parameter_moves k (repeated_entrypoint l) = add_assoc n k l

  parameter_moves : (s u : Placed) → PlacedMoved s u → Moved Same (parameter_of s) (parameter_of u)
  parameter_moves s u h =
      subst (λ x. Moved Same (of_parameter s.location (parameter x)) (parameter_of u)) (sym h.1)
      (subst (λ m. Moved Same (of_parameter m (parameter u.node)) (parameter_of u)) (sym h.0) (of_parameter_moves u.location (parameter u.node)))

  attribute_moves : (asked : Kind → Bool) (k : ℕ) (r : Reading) → Moved Same (with_attribute asked (n + k) (reading_from n r)) (with_attribute asked k r)
  attribute_moves asked k (a_type a) = by (asked a)
    where
      by : (b : Bool) → Moved Same (if b then found a else fault (n + k)) (if b then found a else fault k)
      by true = refl
      by false = refl
  attribute_moves asked k (bad_type l) = refl
  attribute_moves asked k too_large = refl

  argument_moves : (asked : Kind → Bool) (k : ℕ) (t : Tree) → Moved Same (type_argument asked (n + k) t) (type_argument asked k t)
  argument_moves asked k t = subst (λ r. Moved Same (with_attribute asked (n + k) r) (type_argument asked k t)) (sym (type_at_from n k t)) (attribute_moves asked k (type_at k t))

  type_moves : (asked : Kind → Bool) (s u : Placed) → PlacedMoved s u → Moved Same (typed_as asked s) (typed_as asked u)
  type_moves asked s u h =
      subst (λ x. Moved Same (type_argument asked s.location x) (typed_as asked u)) (sym h.1)
      (subst (λ m. Moved Same (type_argument asked m u.node) (typed_as asked u)) (sym h.0) (argument_moves asked u.location u.node))

  abbrev ViewMoved : TypedView → TypedView → Type 0
  ViewMoved s u = (s.name ≡ u.name) × (s.input ≡ u.input) × (s.output ≡ u.output) × BodyMoved s.body u.body

  record OutlineMoved (o q : Outline) : Type 0 where
    parameter : o.parameter ≡ q.parameter
    entries : o.entries ≡ q.entries
    storage : o.storage ≡ q.storage
    code : BodyMoved o.code q.code
    views : Each ViewMoved o.views q.views

  typed_moves : (v w : WrittenView) → WrittenMoved v w → Moved ViewMoved (typed_view v) (typed_view w)
  typed_moves v w h =
      then_moves Same ViewMoved (typed_as packable v.input) (typed_as packable w.input)
      (λ a. and_then (typed_as packable v.output) (λ b. found record { name = v.name; input = a; output = b; body = v.body }))
      (λ a. and_then (typed_as packable w.output) (λ b. found record { name = w.name; input = a; output = b; body = w.body }))
      (type_moves packable v.input w.input h.1)
      (λ a d e. then_moves Same ViewMoved (typed_as packable v.output) (typed_as packable w.output)
      (λ b. found record { name = v.name; input = a; output = b; body = v.body }) (λ b. found record { name = w.name; input = d; output = b; body = w.body })
      (type_moves packable v.output w.output h.2) (λ b g i. (h.0, e, i, h.3)))

  all_typed_move : (vs ws : List WrittenView) → Each WrittenMoved vs ws → Moved (Each ViewMoved) (typed_views vs) (typed_views ws)
  all_typed_move [] [] h = tt
  all_typed_move [] (w ∷ ws) h = absurd h
  all_typed_move (v ∷ vs) [] h = absurd h
  all_typed_move (v ∷ vs) (w ∷ ws) h =
      then_moves ViewMoved (Each ViewMoved) (typed_view v) (typed_view w) (λ t. and_then (typed_views vs) (λ ts. found (t ∷ ts))) (λ t. and_then (typed_views ws) (λ ts. found (t ∷ ts)))
      (typed_moves v w h.0)
      (λ a b i. then_moves (Each ViewMoved) (Each ViewMoved) (typed_views vs) (typed_views ws) (λ ts. found (a ∷ ts)) (λ ts. found (b ∷ ts)) (all_typed_move vs ws h.1) (λ xs ys j. (i, j)))

  parts_move : (k : ℕ) (a b : Option Placed) (s u : Option Placed) (c d : Option Body) (vs ws : List WrittenView) →
      Both PlacedMoved a b → Both PlacedMoved s u → Both BodyMoved c d → Each WrittenMoved vs ws → Moved OutlineMoved (of_parts (n + k) a s c vs) (of_parts k b u d ws)
  parts_move k (Some a) (Some b) (Some s) (Some u) (Some c) (Some d) vs ws h i j l =
      then_moves Same OutlineMoved (parameter_of a) (parameter_of b)
      (λ e. and_then (typed_as storable s) (λ t. and_then (typed_views vs) (λ ts. found (with_types e t ts c))))
      (λ e. and_then (typed_as storable u) (λ t. and_then (typed_views ws) (λ ts. found (with_types e t ts d))))
      (parameter_moves a b h)
      (λ e f q. then_moves Same OutlineMoved (typed_as storable s) (typed_as storable u)
      (λ t. and_then (typed_views vs) (λ ts. found (with_types e t ts c))) (λ t. and_then (typed_views ws) (λ ts. found (with_types f t ts d)))
      (type_moves storable s u i)
      (λ x y r. then_moves (Each ViewMoved) OutlineMoved (typed_views vs) (typed_views ws) (λ ts. found (with_types e x ts c)) (λ ts. found (with_types f y ts d))
      (all_typed_move vs ws l)
      (λ xs ys g. record { parameter = ap (λ z. z.kind) q; entries = ap (λ z. z.entries) q; storage = r; code = j; views = g })))
  parts_move k None None s u c d vs ws h i j l = refl
  parts_move k (Some a) (Some b) None None c d vs ws h i j l = refl
  parts_move k (Some a) (Some b) (Some s) (Some u) None None vs ws h i j l = refl
  parts_move k None (Some b) s u c d vs ws h i j l = absurd h
  parts_move k (Some a) None s u c d vs ws h i j l = absurd h
  parts_move k (Some a) (Some b) None (Some u) c d vs ws h i j l = absurd i
  parts_move k (Some a) (Some b) (Some s) None c d vs ws h i j l = absurd i
  parts_move k (Some a) (Some b) (Some s) (Some u) None (Some d) vs ws h i j l = absurd j
  parts_move k (Some a) (Some b) (Some s) (Some u) (Some c) None vs ws h i j l = absurd j

  -- ---- bodies

  abbrev FaultMoved : ℕ → ℕ → Type 0
  FaultMoved l m = l ≡ n + m

  fault_moves : (l m : ℕ) (T U : Typing) (r : Kind) → l ≡ n + m → T ≡ shift n U → Both FaultMoved (body_fault l T r) (body_fault m U r)
  fault_moves l m T (goes B) r h e = subst (λ t. Both FaultMoved (body_fault l t r) (body_fault m (goes B) r)) (sym e) (by (same_kinds B (r ∷ [])))
    where
      by : (b : Bool) → Both FaultMoved (if b then None else Some l) (if b then None else Some m)
      by true = tt
      by false = h
  fault_moves l m T fails r h e = subst (λ t. Both FaultMoved (body_fault l t r) (body_fault m fails r)) (sym e) tt
  fault_moves l m T (bad q) r h e = subst (λ t. Both FaultMoved (body_fault l t r) (body_fault m (bad q) r)) (sym e) refl

  body_fault_moves : (small : Bool) (c : Context) (a r : Kind) (b d : Body) → BodyMoved b d → Both FaultMoved (fault_of_body small c a r b) (fault_of_body small c a r d)
  body_fault_moves true c a r b d h = fault_moves b.location d.location (b.typing c (a ∷ [])) (d.typing c (a ∷ [])) r h.0 (h.2 c (a ∷ []))
  body_fault_moves false c a r b d h = h.0

  unless_moves : {A : Type 0} (R : A → A → Type 0) (o q : Option ℕ) (x y : Found A) → Both FaultMoved o q → Moved R x y → Moved R (unless_fault o x) (unless_fault q y)
  unless_moves R None None x y h i = i
  unless_moves R None (Some m) x y h i = absurd h
  unless_moves R (Some l) None x y h i = absurd h
  unless_moves R (Some l) (Some m) x y h i = h

  view_fault_moves : (s : Kind) (v w : TypedView) → ViewMoved v w → Both FaultMoved (view_fault s v) (view_fault s w)
  view_fault_moves s v w h =
      subst (λ x. Both FaultMoved (fault_of_body (is_small (pair x s)) place.view (pair x s) v.output v.body) (view_fault s w)) (sym h.1)
      (subst (λ x. Both FaultMoved (fault_of_body (is_small (pair w.input s)) place.view (pair w.input s) x v.body) (view_fault s w)) (sym h.2)
      (body_fault_moves (is_small (pair w.input s)) place.view (pair w.input s) w.output v.body w.body h.3))

  same_view : (v w : TypedView) → ViewMoved v w → a_view v ≡ a_view w
  same_view v w h =
      ap (λ x. record { name = x; input = v.input; output = v.output; body = v.body.node }) h.0
      ∙ ap (λ x. record { name = w.name; input = x; output = v.output; body = v.body.node }) h.1
      ∙ ap (λ x. record { name = w.name; input = w.input; output = x; body = v.body.node }) h.2
      ∙ ap (λ x. record { name = w.name; input = w.input; output = w.output; body = x }) h.3.1

  views_bodies_move : (s : Kind) (vs ws : List TypedView) → Each ViewMoved vs ws → Moved Same (with_views s vs) (with_views s ws)
  views_bodies_move s [] [] h = refl
  views_bodies_move s [] (w ∷ ws) h = absurd h
  views_bodies_move s (v ∷ vs) [] h = absurd h
  views_bodies_move s (v ∷ vs) (w ∷ ws) h =
      unless_moves Same (view_fault s v) (view_fault s w) (and_then (with_views s vs) (λ xs. found (a_view v ∷ xs))) (and_then (with_views s ws) (λ xs. found (a_view w ∷ xs)))
      (view_fault_moves s v w h.0)
      (then_moves Same Same (with_views s vs) (with_views s ws) (λ xs. found (a_view v ∷ xs)) (λ xs. found (a_view w ∷ xs)) (views_bodies_move s vs ws h.1)
      (λ xs ys e. ap (λ x. x ∷ xs) (same_view v w h.0) ∙ ap (λ zs. a_view w ∷ zs) e))

  code_moves : (o q : Outline) → OutlineMoved o q → Both FaultMoved (code_fault o) (code_fault q)
  code_moves o q h =
      subst (λ a. Both FaultMoved (fault_of_body (is_small (pair a o.storage) && is_small (pair (list operation) o.storage)) (main o.entries) (pair a o.storage) (pair (list operation) o.storage) o.code) (code_fault q)) (sym h.parameter)
      (subst (λ es. Both FaultMoved (fault_of_body (is_small (pair q.parameter o.storage) && is_small (pair (list operation) o.storage)) (main es) (pair q.parameter o.storage) (pair (list operation) o.storage) o.code) (code_fault q)) (sym h.entries)
      (subst (λ s. Both FaultMoved (fault_of_body (is_small (pair q.parameter s) && is_small (pair (list operation) s)) (main q.entries) (pair q.parameter s) (pair (list operation) s) o.code) (code_fault q)) (sym h.storage)
      (body_fault_moves (is_small (pair q.parameter q.storage) && is_small (pair (list operation) q.storage)) (main q.entries) (pair q.parameter q.storage) (pair (list operation) q.storage) o.code q.code h.code)))

  same_script : (o q : Outline) (xs ys : List View) → OutlineMoved o q → xs ≡ ys → a_script o xs ≡ a_script q ys
  same_script o q xs ys h e =
      ap (λ a. record { parameter = a; entries = o.entries; storage = o.storage; code = o.code.node; views = xs }) h.parameter
      ∙ ap (λ es. record { parameter = q.parameter; entries = es; storage = o.storage; code = o.code.node; views = xs }) h.entries
      ∙ ap (λ s. record { parameter = q.parameter; entries = q.entries; storage = s; code = o.code.node; views = xs }) h.storage
      ∙ ap (λ t. record { parameter = q.parameter; entries = q.entries; storage = q.storage; code = t; views = xs }) h.code.1
      ∙ ap (λ vs. record { parameter = q.parameter; entries = q.entries; storage = q.storage; code = q.code.node; views = vs }) e

  bodies_of_moves : (o q : Outline) → OutlineMoved o q → Moved Same (with_bodies o) (with_bodies q)
  bodies_of_moves o q h =
      unless_moves Same (code_fault o) (code_fault q) (and_then (with_views o.storage o.views) (λ vs. found (a_script o vs))) (and_then (with_views q.storage q.views) (λ vs. found (a_script q vs)))
      (code_moves o q h)
      (then_moves Same Same (with_views o.storage o.views) (with_views q.storage q.views) (λ vs. found (a_script o vs)) (λ vs. found (a_script q vs))
      (subst (λ s. Moved Same (with_views s o.views) (with_views q.storage q.views)) (sym h.storage) (views_bodies_move q.storage o.views q.views h.views))
      (λ xs ys e. same_script o q xs ys h e))

  -- ---- scripts

  same_found : {A : Type 0} (x y : Found A) → Moved Same x y → x ≡ found_at n y
  same_found (found a) (found b) h = ap found h
  same_found (found a) (fault m) h = absurd h
  same_found (fault l) (found b) h = absurd h
  same_found (fault l) (fault m) h = ap fault h

  no_contents_move : ContentsMoved no_contents no_contents
  no_contents_move = record { parameter = tt; storage = tt; code = tt; views = tt }

  script_moved : (k : ℕ) (t : Tree) → Moved Same (script_at t (n + k)) (script_at t k)
  script_moved k (int z) = refl
  script_moved k (str s) = refl
  script_moved k (bytes b) = refl
  script_moved k (prim name annots ts) = refl
  script_moved k (seq ts) =
      then_moves OutlineMoved Same (outline_of (n + k) (sections ts (n + k + 1))) (outline_of k (sections ts (k + 1))) with_bodies with_bodies
      (then_moves ContentsMoved OutlineMoved (with_sections no_contents (sections ts (n + k + 1))) (with_sections no_contents (sections ts (k + 1))) (of_contents (n + k)) (of_contents k)
      (subst (λ m. Moved ContentsMoved (with_sections no_contents (sections ts m)) (with_sections no_contents (sections ts (k + 1)))) (sym (add_assoc n k 1)) (sections_move (k + 1) ts no_contents no_contents no_contents_move))
      (λ c d h. parts_move k c.parameter d.parameter c.storage d.storage c.code d.code c.views d.views h.parameter h.storage h.code h.views))
      bodies_of_moves

  -- a script n locations further on
  pub script_moves : (k : ℕ) (t : Tree) → script_at t (n + k) ≡ found_at n (script_at t k)
  script_moves k t = same_found (script_at t (n + k)) (script_at t k) (script_moved k t)
