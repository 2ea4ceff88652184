-- The bodies of scripts.
use Rattle.std.proofs.Common.{◌≡◌, ℕ, suc, ◌+◌, ◌<◌, ◌≤◌, Bool, true, false, cond, List, [], ◌∷◌, ◌++◌, drop, length, get_or, Option, Some, None, refl, sym, ap, ◌∙◌, subst, arith, drop-cons, add-one}
use Rattle.std.specs.Prelude.{map, Result, Ok, Err}
use Rattle.std.proofs.lemmas.List.{append-nil, drop_all}
use Rattle.rules_text.specs.nodes.Tree.{Tree, int, str, bytes, prim, seq, size}
use Rattle.rules_data.specs.types.Kind.{Kind, pair}
use Rattle.rules_code.specs.instructions.Arguments.{found, and_then}
use Rattle.rules_code.specs.instructions.Context.{Context, view}
use Rattle.rules_code.specs.instructions.Same.{same_kinds}
use Rattle.rules_code.specs.typing.Bodies.{body_fault, first_fault}
use Rattle.rules_code.specs.typing.Nodes as nodes
use Rattle.rules_code.specs.typing.Nodes.{script, outline}
use Rattle.rules_code.specs.typing.Scripts.{Outline, TypedView, unless_fault, fault_of_body, code_fault, view_fault, a_view, with_views, a_script, with_bodies}
use Rattle.rules_code.specs.typing.Sections.{a_body}
use Rattle.rules_code.specs.typing.Typing.{Typing, goes, fails, shift}
use Rattle.rules_code.specs.typing.Typing as ty
use Rattle.rules_code.specs.certificates.Derivation.{Entry, block_entries}
use Rattle.mich_base.specs.declared.ty.Ty.{Ty}
use Rattle.mich_base.specs.TypeView.{kind}
use Rattle.mich_base.specs.View.{tree}
use Rattle.mich_check.specs.Pending.{moved}
use Rattle.mich_check.specs.Scripts.{largest_of}
use Rattle.mich_check.proofs.PushTyping.{no_move}
use Rattle.mich_outline.specs.Outlines.{outline_at}
use Rattle.mich_outline.specs.View.{view_of}
use Rattle.mich_outline.specs.declared.outline.View.{View as Item}
use Rattle.mich_outline.proofs.Moves.{script_is}
use Rattle.mich_typed.specs.declared.error.CheckError.{CheckError}
use Rattle.mich_typed.specs.declared.error.CheckError.TheVariants as error
use Rattle.mich_control.proofs.Shifts.{body_at}
use Rattle.mich_check.specs.Scripts.{AreEnds}
use Rattle.mich_cert.specs.telling.Told.{Adds}
use Rattle.mich_cert.specs.telling.Walk.{Confirms, IsOutline, IsScript, code_entries, views_entries, found_entries, script_entries, views_fault, views_reach}
use Rattle.mich_cert.specs.declared.telling.told.Told.{Told}
use Rattle.mich_cert.proofs.telling_lemmas.Lines.{adds_none, adds_both}
use Rattle.mich_cert.proofs.telling_lemmas.ToldBlocks.{Completes}

pub outline_zero : (t : Tree) → outline_at 0 t ≡ outline t
outline_zero (seq ts) = refl
outline_zero (int n) = refl
outline_zero (str s) = refl
outline_zero (bytes b) = refl
outline_zero (prim name annots ts) = refl

-- ---- a body

confirms_as : {A : Type 0} (f g : Option ℕ) (es fs : List Entry) (old new : Told) (z : Result A CheckError) → f ≡ g → es ≡ fs → Confirms f es old new z → Confirms g fs old new z
confirms_as f g es fs old new (Ok u) e d h = (sym e ∙ h.0, subst (Adds old new) d h.1)
confirms_as f g es fs old new (Err (error.IllTyped l)) e d h = sym e ∙ h
confirms_as f g es fs old new (Err error.Memory) e d h = tt

fault_moves : (at k : ℕ) (T : Typing) (r : Kind) → body_fault (at + k) (shift at T) r ≡ moved at (body_fault k T r)
fault_moves at k (goes B) r = by (same_kinds B (r ∷ []))
  where
    by : (b : Bool) → cond b None (Some (at + k)) ≡ moved at (cond b None (Some k))
    by true = refl
    by false = refl
fault_moves at k fails r = refl
fault_moves at k (ty.bad l) r = refl

module _ (at k : ℕ) (t : Tree) (small : Bool) (c : Context) (a r : Kind) where
  abbrev whole : Option ℕ
  whole = moved at (fault_of_body small c a r (a_body k t (nodes.body t k)))

  fault_is : (b e : Kind) → small ≡ true → b ≡ a → e ≡ r → body_fault (at + k) (nodes.body t (at + k) c (b ∷ [])) e ≡ whole
  fault_is b e s f g =
      ap (λ x. body_fault (at + k) (nodes.body t (at + k) c (x ∷ [])) e) f ∙ ap (body_fault (at + k) (nodes.body t (at + k) c (a ∷ []))) g
      ∙ ap (λ T. body_fault (at + k) T r) (sym (body_at at k t c (a ∷ []))) ∙ fault_moves at k (nodes.body t k c (a ∷ [])) r
      ∙ ap (λ q. moved at (cond q (body_fault k (nodes.body t k c (a ∷ [])) r) (Some k))) (sym s)

  pub body_told : {A : Type 0} (b e : Kind) → small ≡ true → b ≡ a → e ≡ r → (old new : Told) (z : Result A CheckError) →
      Confirms (body_fault (at + k) (nodes.body t (at + k) c (b ∷ [])) e) (block_entries t (at + k) c (b ∷ [])) old new z →
      Confirms whole (block_entries t (at + k) c (a ∷ [])) old new z
  body_told b e s f g old new z h =
      confirms_as (body_fault (at + k) (nodes.body t (at + k) c (b ∷ [])) e) whole (block_entries t (at + k) c (b ∷ [])) (block_entries t (at + k) c (a ∷ [])) old new z
      (fault_is b e s f g) (ap (λ x. block_entries t (at + k) c (x ∷ [])) f) h

  -- the same of a view alone
  pub view_told : {A : Type 0} (b e : Kind) → small ≡ true → b ≡ a → e ≡ r → (old new : Told) (z : Result A CheckError) →
      Confirms (body_fault (at + k) (nodes.body t (at + k) c (b ∷ [])) e) (block_entries t (at + k) c (b ∷ [])) old new z →
      Confirms whole (block_entries t (at + k) c (a ∷ []) ++ []) old new z
  view_told b e s f g old new z h =
      confirms_as (body_fault (at + k) (nodes.body t (at + k) c (b ∷ [])) e) whole (block_entries t (at + k) c (b ∷ [])) (block_entries t (at + k) c (a ∷ []) ++ []) old new z
      (fault_is b e s f g) (ap (λ x. block_entries t (at + k) c (x ∷ [])) f ∙ sym (append-nil (block_entries t (at + k) c (a ∷ [])))) h

  pub too_large : (A : Type 0) (es : List Entry) (old new : Told) (z : CheckError) → AreEnds small a r (at + k) (Err z) → Confirms {A = A} whole es old new (Err z)
  too_large A es old new (error.IllTyped l) h =
      ap (λ q. moved at (cond q (body_fault k (nodes.body t k c (a ∷ [])) r) (Some k))) h.0 ∙ ap Some (sym h.1)
  too_large A es old new error.Memory h = tt

-- ---- views

views_more : (at : ℕ) (s : Kind) (v : TypedView) (vs : List TypedView) → views_entries at s (v ∷ vs) ≡ views_entries at s (v ∷ []) ++ views_entries at s vs
views_more at s v vs =
    ap (λ X. X ++ views_entries at s vs) (sym (append-nil (block_entries v.body.node (at + v.body.location) view (pair v.input s ∷ []))))

first_bad : (A : Type 0) (at : ℕ) (o p all : Option ℕ) (es fs : List Entry) (old now new : Told) (e : CheckError) → all ≡ moved at (first_fault o p) →
    Confirms {A = A} (moved at o) es old now (Err e) → Confirms {A = A} all fs old new (Err e)
first_bad A at (Some m) p all es fs old now new (error.IllTyped l) w h = w ∙ h
first_bad A at None p all es fs old now new (error.IllTyped l) w h = absurd cc
first_bad A at o p all es fs old now new error.Memory w h = tt

module _ (s : Kind) (vs : List Item) (i : ℕ) (v : Item) (h : i < length vs) (e : v ≡ get_or vs i v) where
  items_at : drop i vs ≡ v ∷ drop (i + 1) vs
  items_at = drop-cons vs i v h ∙ ap (λ x. x ∷ drop (suc i) vs) (sym e) ∙ ap (λ k. v ∷ drop k vs) (sym (add-one i))

  views_at : map view_of (drop i vs) ≡ view_of v ∷ map view_of (drop (i + 1) vs)
  views_at = ap (map view_of) items_at

  pub views_room : (n : ℕ) → views_reach (drop i vs) ≤ n → (v.body.at + size (tree v.body.node.now) ≤ n) × (views_reach (drop (i + 1) vs) ≤ n)
  views_room n r =
      let k : views_reach (v ∷ drop (i + 1) vs) ≤ n = subst (λ xs. views_reach xs ≤ n) items_at r in
      (omega (arith, k), omega (arith, k))

  pub views_size : (n : ℕ) → largest_of (drop i vs) ≤ n → (size (tree v.body.node.now) ≤ n) × (largest_of (drop (i + 1) vs) ≤ n)
  views_size n r =
      let k : largest_of (v ∷ drop (i + 1) vs) ≤ n = subst (λ xs. largest_of xs ≤ n) items_at r in
      (omega (arith, k), omega (arith, k))

  next_is : (at : ℕ) (all : Option ℕ) → all ≡ moved at (views_fault s (map view_of (drop i vs))) →
      all ≡ moved at (first_fault (view_fault s (view_of v)) (views_fault s (map view_of (drop (i + 1) vs))))
  next_is at all w = w ∙ ap (λ xs. moved at (views_fault s xs)) views_at

  pub views_failed : (A : Type 0) (at : ℕ) (all : Option ℕ) (es fs : List Entry) (old now new : Told) (z : CheckError) →
      all ≡ moved at (views_fault s (map view_of (drop i vs))) → Confirms {A = A} (moved at (view_fault s (view_of v))) es old now (Err z) → Confirms {A = A} all fs old new (Err z)
  views_failed A at all es fs old now new z w k =
      first_bad A at (view_fault s (view_of v)) (views_fault s (map view_of (drop (i + 1) vs))) all es fs old now new z (next_is at all w) k

  pub views_step : (at : ℕ) (all : Option ℕ) → all ≡ moved at (views_fault s (map view_of (drop i vs))) → moved at (view_fault s (view_of v)) ≡ None →
      all ≡ moved at (views_fault s (map view_of (drop (i + 1) vs)))
  views_step at all w k =
      next_is at all w ∙ ap (λ o. moved at (first_fault o (views_fault s (map view_of (drop (i + 1) vs))))) (no_move at (view_fault s (view_of v)) k)

  pub views_told : (at : ℕ) (all : List Entry) (old now next : Told) → Completes old now all (views_entries at s (map view_of (drop i vs))) →
      Adds now next (views_entries at s (view_of v ∷ [])) → Completes old next all (views_entries at s (map view_of (drop (i + 1) vs)))
  views_told at all old now next g a new k =
      let first : List Entry = views_entries at s (view_of v ∷ []) in
      let rest : List Entry = views_entries at s (map view_of (drop (i + 1) vs)) in
      let both : views_entries at s (map view_of (drop i vs)) ≡ first ++ rest =
      ap (views_entries at s) views_at ∙ views_more at s (view_of v) (map view_of (drop (i + 1) vs)) in
      g new (subst (Adds now new) (sym both) (adds_both now next new first rest a k))

module _ (s : Kind) (vs : List Item) (i : ℕ) (h : length vs ≤ i) (at : ℕ) where
  pub views_end : (all : Option ℕ) → all ≡ moved at (views_fault s (map view_of (drop i vs))) → all ≡ None
  views_end all w = w ∙ ap (λ xs. moved at (views_fault s (map view_of xs))) (drop_all i vs h)

  pub views_all : (all : List Entry) (old now : Told) → Completes old now all (views_entries at s (map view_of (drop i vs))) → Adds old now all
  views_all all old now g = g now (subst (Adds now now) (sym (ap (λ xs. views_entries at s (map view_of xs)) (drop_all i vs h))) (adds_none now))

-- ---- scripts

with_views_is : (s : Kind) (vs : List TypedView) → with_views s vs ≡ unless_fault (views_fault s vs) (found (map a_view vs))
with_views_is s [] = refl
with_views_is s (v ∷ vs) = ap (λ f. unless_fault (view_fault s v) (and_then f (λ ws. found (a_view v ∷ ws)))) (with_views_is s vs) ∙ by (view_fault s v) (views_fault s vs)
  where
    by : (o p : Option ℕ) → unless_fault o (and_then (unless_fault p (found (map a_view vs))) (λ ws. found (a_view v ∷ ws))) ≡ unless_fault (first_fault o p) (found (a_view v ∷ map a_view vs))
    by (Some l) p = refl
    by None (Some l) = refl
    by None None = refl

bodies_are : (o : Outline) → with_bodies o ≡ unless_fault (code_fault o) (unless_fault (views_fault o.storage o.views) (found (a_script o (map a_view o.views))))
bodies_are o = ap (λ f. unless_fault (code_fault o) (and_then f (λ vs. found (a_script o vs)))) (with_views_is o.storage o.views) ∙ by (code_fault o) (views_fault o.storage o.views)
  where
    by : (q p : Option ℕ) → unless_fault q (and_then (unless_fault p (found (map a_view o.views))) (λ vs. found (a_script o vs))) ≡ unless_fault q (unless_fault p (found (a_script o (map a_view o.views))))
    by (Some l) p = refl
    by None (Some l) = refl
    by None None = refl

-- what stood before it was moved
moved_back : (at l : ℕ) (o : Option ℕ) → moved at o ≡ Some l → (m : ℕ) × (o ≡ Some m) × (l ≡ at + m)
moved_back at l (Some m) h = (m, refl, (let e : at + m ≡ l = cc in sym e))
moved_back at l None h = absurd cc

pub script_by : (t : Tree) → script t ≡ and_then (outline t) with_bodies
script_by t = script_is 0 t ∙ ap (λ f. and_then f with_bodies) (outline_zero t)

pub no_outline : (at : ℕ) (t : Tree) (es : List Entry) (old new : Told) (z : CheckError) → IsOutline at t (Err z) → IsScript at (script t) es old new (Err z)
no_outline at t es old new (error.IllTyped l) h = (h.0, script_by t ∙ ap (λ f. and_then f with_bodies) h.1, h.2)
no_outline at t es old new error.Memory h = tt

module _ (at : ℕ) (t : Tree) (o : Outline) (h : outline t ≡ found o) where
  bodies_of : script t ≡ unless_fault (code_fault o) (unless_fault (views_fault o.storage o.views) (found (a_script o (map a_view o.views))))
  bodies_of = script_by t ∙ ap (λ f. and_then f with_bodies) h ∙ bodies_are o

  pub code_failed : (A : Type 0) (es fs : List Entry) (old now new : Told) (z : CheckError) → Confirms {A = A} (moved at (code_fault o)) es old now (Err z) → IsScript at (script t) fs old new (Err z)
  code_failed A es fs old now new (error.IllTyped l) k =
      let m = moved_back at l (code_fault o) k in
      (m.0, bodies_of ∙ ap (λ q. unless_fault q (unless_fault (views_fault o.storage o.views) (found (a_script o (map a_view o.views))))) m.1, m.2)
  code_failed A es fs old now new error.Memory k = tt

  module _ (g : moved at (code_fault o) ≡ None) where
    views_of : script t ≡ unless_fault (views_fault o.storage o.views) (found (a_script o (map a_view o.views)))
    views_of = bodies_of ∙ ap (λ q. unless_fault q (unless_fault (views_fault o.storage o.views) (found (a_script o (map a_view o.views))))) (no_move at (code_fault o) g)

    pub script_views_failed : (A : Type 0) (es fs : List Entry) (old now new : Told) (z : CheckError) → Confirms {A = A} (moved at (views_fault o.storage o.views)) es old now (Err z) →
        IsScript at (script t) fs old new (Err z)
    script_views_failed A es fs old now new (error.IllTyped l) k =
        let m = moved_back at l (views_fault o.storage o.views) k in
        (m.0, views_of ∙ ap (λ q. unless_fault q (found (a_script o (map a_view o.views)))) m.1, m.2)
    script_views_failed A es fs old now new error.Memory k = tt

    pub script_told : (old now new : Told) → Adds old now (code_entries at o) → moved at (views_fault o.storage o.views) ≡ None → Adds now new (views_entries at o.storage o.views) →
        (storage : Ty) → kind storage ≡ o.storage → IsScript at (script t) (script_entries at t) old new (Ok storage)
    script_told old now new a k b storage e = (
      (a_script o (map a_view o.views), views_of ∙ ap (λ q. unless_fault q (found (a_script o (map a_view o.views)))) (no_move at (views_fault o.storage o.views) k), sym e),
      subst (Adds old new) (sym (ap (found_entries at) h)) (adds_both old now new (code_entries at o) (views_entries at o.storage o.views) a b),
    )
