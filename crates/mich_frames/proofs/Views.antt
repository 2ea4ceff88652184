-- The typed script of a contract has the code of each of its views.
use Rattle.std.proofs.Common.{◌≡◌, ℕ, Bool, true, false, List, [], ◌∷◌, Option, Some, None, refl, sym, ap, ◌∙◌, subst}
use Rattle.std.specs.Prelude.{◌&&◌, if◌then◌else◌, option_and_then}
use Rattle.std.specs.Str.{bytes_eq}
use Rattle.std.proofs.lemmas.Bool.{and_parts}
use Rattle.rules_text.specs.nodes.Tree.{Tree, int, str, bytes, prim, seq, Trees}
use Rattle.rules_data.specs.types.Kind.{Kind}
use Rattle.rules_data.specs.types.Kind as k
use Rattle.rules_data.specs.types.Entrypoints.{Entry}
use Rattle.rules_code.specs.instructions.Context as place
use Rattle.rules_code.specs.instructions.Same.{same_kind}
use Rattle.rules_code.specs.instructions.Arguments.{Found, found, fault, and_then}
use Rattle.rules_code.specs.typing.Scripts.{Script, Outline, View, TypedView, unless_fault, code_fault, view_fault, a_view, with_views, a_script, with_bodies, outline_of}
use Rattle.rules_code.specs.typing.Nodes.{sections, outline, script}
use Rattle.rules_code.specs.evaluation.Surroundings.{Contract}
use Rattle.rules_code.specs.evaluation.Contracts.{if_found, outline_in, view_named, viewed_with, viewed_of}
use Rattle.laws_data.proofs.types_lemmas.ForCallers.{same_kind_true}
use Rattle.mich_instr.specs.Code.{Codes, ViewCode, ViewCodes, view}
use Rattle.mich_instr.specs.Code as made
use Rattle.mich_instr.specs.Typed.{AreCode, IsScript, is_script, AreViews, no_views, one_more}
use Rattle.mich_frames.specs.Views.{code_named, code_with, view_code, ViewedAs}

-- ---- what was found was found of something

found_parts : {A B : Type 0} (x : Found A) (go : A → Found B) (y : B) → and_then x go ≡ found y → (z : A) × (x ≡ found z) × (go z ≡ found y)
found_parts (found z) go y e = (z, refl, e)
found_parts (fault l) go y e = absurd cc

no_fault : {A : Type 0} (x : Option ℕ) (y : Found A) (z : A) → unless_fault x y ≡ found z → y ≡ found z
no_fault None y z e = e
no_fault (Some l) y z e = absurd cc

found_same : {A : Type 0} (x y : A) → found x ≡ found y → x ≡ y
found_same x y e = cc

-- a script is its outline with its bodies
outlined : (t : Tree) (s : Script) → script t ≡ found s → (o : Outline) × (outline t ≡ found o) × (with_bodies o ≡ found s)
outlined (seq ts) s e = found_parts (outline_of 0 (sections ts 1)) with_bodies s e
outlined (int n) s e = absurd cc
outlined (str b) s e = absurd cc
outlined (bytes b) s e = absurd cc
outlined (prim name annots ts) s e = absurd cc

with_views_of : (o : Outline) (s : Script) → with_bodies o ≡ found s → (s.storage ≡ o.storage) × (with_views o.storage o.views ≡ found s.views)
with_views_of o s e =
    let parts = found_parts (with_views o.storage o.views) (λ vs. found (a_script o vs)) s (no_fault (code_fault o) _ s e) in
    let same : a_script o parts.0 ≡ s = found_same _ _ parts.2 in
    (sym (ap (λ s. s.storage) same), parts.1 ∙ ap (λ s. found s.views) same)

-- ---- views by name

-- a view as typing has it, and its code
abbrev Matches : Kind → Option TypedView → Option ViewCode → Type 0
Matches s None None = Unit {0}
Matches s (Some v) (Some (view n a b is)) = (v.input ≡ a) × (v.output ≡ b) × (ts : Trees) × (v.body.node ≡ seq ts) × AreCode place.view ts is (k.pair a s ∷ []) (b ∷ [])
Matches s _ _ = ⊥

more_parts : (s : Kind) (v : TypedView) (vs : List TypedView) (ws : List View) → with_views s (v ∷ vs) ≡ found ws → (us : List View) × (with_views s vs ≡ found us) × (ws ≡ a_view v ∷ us)
more_parts s v vs ws e =
    let parts = found_parts (with_views s vs) (λ ws. found (a_view v ∷ ws)) ws (no_fault (view_fault s v) _ ws e) in
    (parts.0, parts.1, sym (found_same _ _ parts.2))

named : (name : List ℕ) (s : Kind) (vs : List TypedView) (ws : List View) (cs : ViewCodes) → with_views s vs ≡ found ws → AreViews s ws cs → Matches s (view_named name vs) (code_named name cs)
named name s [] ws cs e h = by ws cs h (sym (found_same _ _ e))
  where
    by : (ws : List View) (cs : ViewCodes) → AreViews s ws cs → ws ≡ [] → Matches s None (code_named name cs)
    by _ _ no_views f = tt
    by _ _ (one_more x h) f = absurd cc
named name s (v ∷ vs) ws cs e h = let parts = more_parts s v vs ws e in by ws cs h parts.0 (λ cs rest. named name s vs parts.0 cs parts.1 rest) parts.2
  where
    by : (ws : List View) (cs : ViewCodes) → AreViews s ws cs → (us : List View) →
        ((cs : ViewCodes) → AreViews s us cs → Matches s (view_named name vs) (code_named name cs)) → ws ≡ a_view v ∷ us → Matches s (view_named name (v ∷ vs)) (code_named name cs)
    by _ _ no_views us later f = absurd cc
    by _ _ (one_more {a = a} {b = b} {name = n} {ts = ts} {is = is} {vs = ws'} {ws = cs} x rest) us later f =
        let same : record { name = n; input = a; output = b; body = seq ts } ≡ a_view v = cc in
        let others : ws' ≡ us = cc in
        let here : Matches s (Some v) (Some (view n a b is)) = (sym (ap (λ w. w.input) same), sym (ap (λ w. w.output) same), ts, sym (ap (λ w. w.body) same), x) in
        let there : Matches s (view_named name vs) (code_named name cs) = later cs (subst (λ ws. AreViews s ws cs) others rest) in
        go _ _ a b n is (bytes_eq v.name name) (bytes_eq n name) (ap (λ w. bytes_eq w.name name) same) here there
      where
        go : (p : Option TypedView) (q : Option ViewCode) (a b : Kind) (n : List ℕ) (is : Codes) (x y : Bool) → y ≡ x → Matches s (Some v) (Some (view n a b is)) → Matches s p q →
            Matches s (if x then Some v else p) (if y then Some (view n a b is) else q)
        go p q a b n is true true e here there = here
        go p q a b n is false false e here there = there
        go p q a b n is true false e here there = absurd cc
        go p q a b n is false true e here there = absurd cc

-- ---- views with their types

with_types : (hash : List ℕ) (c : Contract) (s a b : Kind) (v : Option TypedView) (q : Option ViewCode) → Matches s v q →
    ViewedAs c s a b (option_and_then (viewed_with hash c s a b) v) (option_and_then (code_with a b) q)
with_types hash c s a b None None h = tt
with_types hash c s a b (Some v) None h = absurd h
with_types hash c s a b None (Some q) h = absurd h
with_types hash c s a b (Some v) (Some (view n a' b' is)) h =
    go (same_kind v.input a && same_kind v.output b) (same_kind a' a && same_kind b' b) refl (ap (λ x. same_kind x a && same_kind v.output b) h.0 ∙ ap (λ x. same_kind a' a && same_kind x b) h.1)
  where
    go : (x y : Bool) → same_kind a' a && same_kind b' b ≡ y → x ≡ y →
        ViewedAs c s a b (if x then Some record { hash = hash; contract = c; storage = s; body = v.body.node } else None) (if y then Some is else None)
    go true true e f =
        let both = and_parts (same_kind a' a) (same_kind b' b) e in
        (refl, refl, h.2, h.3, subst (λ x. AreCode place.view h.2 is (k.pair x s ∷ []) (b ∷ [])) (same_kind_true a' a both.0) (subst (λ x. AreCode place.view h.2 is (k.pair a' s ∷ []) (x ∷ [])) (same_kind_true b' b both.1) h.4))
    go false false e f = tt
    go true false e f = absurd cc
    go false true e f = absurd cc

-- the view of a name with these types, and its code in the typed script
pub views_agree : (hash : List ℕ) (c : Contract) (name : List ℕ) (a b : Kind) (p s : Kind) (es : List Entry) (is : Codes) (vs : ViewCodes) → IsScript c.script (made.script c.script p es s is vs) →
    ViewedAs c s a b (viewed_of hash c name a b) (view_code name a b vs)
views_agree hash c name a b p s es is vs h = by c.script c.script p s es vs h refl
  where
    by : (t t' : Tree) (p s : Kind) (es : List Entry) (vs : ViewCodes) → IsScript t (made.script t' p es s is vs) → c.script ≡ t → ViewedAs c s a b (viewed_of hash c name a b) (view_code name a b vs)
    by t _ p s es vs (is_script {vs = ws} typed code views) e =
        let o = outlined t _ typed in
        let w = with_views_of o.0 _ o.2 in
        let m : Matches s (view_named name o.0.views) (code_named name vs) = named name s o.0.views ws vs (ap (λ s. with_views s o.0.views) w.0 ∙ w.1) views in
        let at_outline : viewed_of hash c name a b ≡ option_and_then (viewed_with hash c s a b) (view_named name o.0.views) =
        ap (λ t. option_and_then (λ o. option_and_then (viewed_with hash c o.storage a b) (view_named name o.views)) (outline_in t)) e
        ∙ ap (λ x. option_and_then (λ o. option_and_then (viewed_with hash c o.storage a b) (view_named name o.views)) (if_found x)) o.1
        ∙ ap (λ s. option_and_then (viewed_with hash c s a b) (view_named name o.0.views)) (sym w.0) in
        subst (λ x. ViewedAs c s a b x (view_code name a b vs)) (sym at_outline) (with_types hash c s a b (view_named name o.0.views) (code_named name vs) m)
