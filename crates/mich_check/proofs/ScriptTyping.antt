-- Scripts, their bodies and their views.
use Rattle.std.proofs.Common.{◌≡◌, ℕ, suc, ◌+◌, ◌<◌, ◌≤◌, Bool, true, List, [], ◌∷◌, ◌++◌, drop, length, get_or, Option, Some, None, refl, sym, ap, ◌∙◌, subst, append_assoc, drop-cons, add-one, arith}
use Rattle.std.specs.Prelude.{if◌then◌else◌, map, Result, Ok, Err}
use Rattle.std.proofs.lemmas.List.{append-nil, drop_all}
use Rattle.rules_text.specs.nodes.Tree.{Tree, int, str, bytes, prim, seq, size}
use Rattle.rules_data.specs.types.Kind.{Kind, pair}
use Rattle.rules_code.specs.instructions.Arguments.{Found, found, fault, and_then}
use Rattle.rules_code.specs.instructions.Context.{Context}
use Rattle.rules_code.specs.instructions.Context as standing
use Rattle.rules_code.specs.typing.Bodies.{body_fault}
use Rattle.rules_code.specs.typing.Nodes.{body, found_at, script, script_at}
use Rattle.rules_code.specs.typing.Sections.{Body}
use Rattle.rules_code.specs.typing.Scripts.{Outline, TypedView, View, Script, fault_of_body, view_fault, unless_fault, a_view, with_views, a_script, with_bodies}
use Rattle.mich_base.specs.declared.ty.Ty.{Ty}
use Rattle.mich_base.specs.View.{tree}
use Rattle.mich_outline.specs.Outlines.{outline_at}
use Rattle.mich_outline.specs.View.{outline_of, view_of}
use Rattle.mich_outline.specs.declared.outline.Outline.{Outline as CodeOutline}
use Rattle.mich_outline.specs.declared.outline.View.{View as Item}
use Rattle.mich_outline.proofs.ForCallers.{ViewsSmall, bodies_small, script_moves}
use Rattle.mich_instr.specs.Code.{Codes, ViewCode, ViewCodes, no_view, more_views}
use Rattle.mich_instr.specs.Code as made
use Rattle.mich_instr.specs.View.{codes, script_code, script_node, node_of, view_code, view_codes}
use Rattle.mich_instr.specs.Typed.{AreCode, IsScript, is_script, AreViews, no_views, one_more}
use Rattle.mich_instr.specs.declared.instr.Instr.{Instr}
use Rattle.mich_instr.specs.declared.instr.Script.{Script as CodeScript}
use Rattle.mich_instr.specs.declared.instr.ViewCode.{ViewCode as CodeOfView}
use Rattle.mich_typed.specs.declared.error.CheckError.{CheckError}
use Rattle.mich_typed.specs.declared.error.CheckError.TheVariants as error
use Rattle.mich_control.specs.Answers.{typing, Leads, ends_in, inside}
use Rattle.mich_check.specs.Scripts.{AreEnds, IsBodyOf, IsWhole, IsScriptCode, HasCode, IsView, AreViewsOf, AreTypedViews, IsTypedAt, script_made, largest_of}
use Rattle.mich_control.proofs.ForCallers.{ended_leads}

-- ---- a body from one type to another

faulted : (at : ℕ) (o : Option (List Ty)) (r : Kind) → body_fault at (typing o) r ≡ (if ends_in o (r ∷ []) then None else Some at)
faulted at (Some ts) r = refl
faulted at None r = refl

module _ (at : ℕ) (t : Tree) (c : Context) (a r : Kind) (S : List Kind) (q : S ≡ a ∷ []) where
  from : body t at c (a ∷ []) ≡ body t at c S
  from = ap (body t at c) (sym q)

  module _ (o : Option (List Ty)) (C : List Kind) (h : body t at c S ≡ typing o) (e : C ≡ r ∷ []) where
    ended : body_fault at (body t at c (a ∷ [])) r ≡ (if ends_in o C then None else Some at)
    ended = ap (λ T. body_fault at T r) (from ∙ h) ∙ faulted at o r ∙ ap (λ X. if ends_in o X then None else Some at) (sym e)

    pub whole_good : (is : Codes) → t ≡ seq (inside t) → ends_in o C ≡ true → Leads (λ B. AreCode c (inside t) is S B) o →
        (body_fault at (body t at c (a ∷ [])) r ≡ None) × (t ≡ seq (inside t)) × AreCode c (inside t) is (a ∷ []) (r ∷ [])
    whole_good is s k l = (
      ended ∙ ap (λ b. if b then None else Some at) k,
      s,
      subst (λ X. AreCode c (inside t) is X (r ∷ [])) q (subst (λ X. AreCode c (inside t) is S X) e (ended_leads o C (λ B. AreCode c (inside t) is S B) k l)),
    )

-- the fault of a body whose types are small
module _ (small : Bool) (c : Context) (a r : Kind) (b : Body) where
  pub too_large : (e : CheckError) → AreEnds small a r b.location (Err e) → IsBodyOf (fault_of_body small c a r b) c b.node a r (Err e)
  too_large (error.IllTyped l) h = ap (λ s. if s then body_fault b.location (b.typing c (a ∷ [])) r else Some b.location) h.0 ∙ ap Some (sym h.1)
  too_large error.Memory h = tt

  small_fault : (x : Option ℕ) → small ≡ true → body_fault b.location (b.typing c (a ∷ [])) r ≡ x → fault_of_body small c a r b ≡ x
  small_fault x s h = ap (λ s. if s then body_fault b.location (b.typing c (a ∷ [])) r else Some b.location) s ∙ h

  small_enough : (x : Result (List Instr) CheckError) → small ≡ true → IsWhole c b a r x → IsBodyOf (fault_of_body small c a r b) c b.node a r x
  small_enough (Ok is) s h = (small_fault None s h.0, h.1, h.2)
  small_enough (Err (error.IllTyped l)) s h = small_fault (Some l) s h
  small_enough (Err error.Memory) s h = tt

-- ---- views

pub view_fails : (s : Kind) (v : TypedView) (e : CheckError) → IsBodyOf (view_fault s v) standing.view v.body.node (pair v.input s) v.output (Err e) → IsView s v (Err e)
view_fails s v (error.IllTyped l) h = h
view_fails s v error.Memory h = tt

-- views that were typed stand in front
abbrev behind : List View → Found (List View) → Found (List View)
behind ts f = and_then f (λ vs. found (ts ++ vs))

behind_none : (f : Found (List View)) → f ≡ behind [] f
behind_none (found vs) = refl
behind_none (fault l) = refl

behind_one : (ts : List View) (v : View) (f : Found (List View)) → behind ts (and_then f (λ vs. found (v ∷ vs))) ≡ behind (ts ++ v ∷ []) f
behind_one ts v (found vs) = ap found (sym (append_assoc ts (v ∷ []) vs))
behind_one ts v (fault l) = refl

-- what is typed so far of the views of a script
pub record Reached (s : Kind) (whole : Found (List View)) (rest : List TypedView) (ws : List CodeOfView) : Type 0 where
  pub earlier : List View
  pub same : whole ≡ behind earlier (with_views s rest)
  pub typed : AreViews s earlier (view_codes ws)

pub reached_none : (s : Kind) (vs : List TypedView) (ws : List CodeOfView) → ws ≡ [] → Reached s (with_views s vs) vs ws
reached_none s vs ws e = record {
  earlier = [];
  same = behind_none (with_views s vs);
  typed = subst (λ xs. AreViews s [] (view_codes xs)) (sym e) no_views;
}

-- one more behind the others
abbrev pushed : ViewCodes → ViewCode → ViewCodes
pushed no_view w = more_views w no_view
pushed (more_views x xs) w = more_views x (pushed xs w)

pushed_is : (ws : List CodeOfView) (w : CodeOfView) → view_codes (ws ++ w ∷ []) ≡ pushed (view_codes ws) (view_code w)
pushed_is [] w = refl
pushed_is (x ∷ ws) w = ap (more_views (view_code x)) (pushed_is ws w)

one_last : (s : Kind) (v : TypedView) (w : ViewCode) → HasCode s v w → AreViews s (a_view v ∷ []) (more_views w no_view)
one_last s v w k =
    subst (λ x. AreViews s (a_view v ∷ []) (more_views x no_view)) (sym k.whole)
    (subst (λ b. AreViews s (record { name = v.name; input = v.input; output = v.output; body = b } ∷ []) (more_views (made.view v.name v.input v.output k.inner) no_view)) (sym k.sequence) (one_more k.typed no_views))

last_view : {s : Kind} {ts : List View} {xs : ViewCodes} (v : TypedView) (w : ViewCode) → AreViews s ts xs → HasCode s v w → AreViews s (ts ++ a_view v ∷ []) (pushed xs w)
last_view {s = s} v w no_views k = one_last s v w k
last_view v w (one_more p q) k = one_more p (last_view v w q k)

views_last : (s : Kind) (ts : List View) (ws : List CodeOfView) (v : TypedView) (w : CodeOfView) → AreViews s ts (view_codes ws) → HasCode s v (view_code w) →
    AreViews s (ts ++ a_view v ∷ []) (view_codes (ws ++ w ∷ []))
views_last s ts ws v w h k = subst (AreViews s (ts ++ a_view v ∷ [])) (sym (pushed_is ws w)) (last_view v (view_code w) h k)

module _ (s : Kind) (whole : Found (List View)) (vs : List Item) (i : ℕ) (v : Item) (ws : List CodeOfView) (h : i < length vs) (e : v ≡ get_or vs i v) where
  views_at : map view_of (drop i vs) ≡ view_of v ∷ map view_of (drop (i + 1) vs)
  views_at =
      ap (map view_of) (drop-cons vs i v h) ∙ ap (λ x. view_of x ∷ map view_of (drop (suc i) vs)) (sym e)
      ∙ ap (λ k. view_of v ∷ map view_of (drop k vs)) (sym (add-one i))

  pub views_size : (n : ℕ) → largest_of (drop i vs) ≤ n → (size (tree v.body.node.now) ≤ n) × (largest_of (drop (i + 1) vs) ≤ n)
  views_size n r =
      let items : drop i vs ≡ v ∷ drop (i + 1) vs = drop-cons vs i v h ∙ ap (λ x. x ∷ drop (suc i) vs) (sym e) ∙ ap (λ k. v ∷ drop k vs) (sym (add-one i)) in
      let k : largest_of (v ∷ drop (i + 1) vs) ≤ n = subst (λ xs. largest_of xs ≤ n) items r in
      (omega (arith, k), omega (arith, k))

  step_at : Reached s whole (map view_of (drop i vs)) ws → Reached s whole (view_of v ∷ map view_of (drop (i + 1) vs)) ws
  step_at g = subst (λ xs. Reached s whole xs ws) views_at g

  typed_next : (r : Reached s whole (view_of v ∷ map view_of (drop (i + 1) vs)) ws) → view_fault s (view_of v) ≡ None →
      whole ≡ behind (r.earlier ++ a_view (view_of v) ∷ []) (with_views s (map view_of (drop (i + 1) vs)))
  typed_next r k =
      let later = with_views s (map view_of (drop (i + 1) vs)) in
      r.same ∙ ap (λ o. behind r.earlier (unless_fault o (and_then later (λ xs. found (a_view (view_of v) ∷ xs))))) k ∙ behind_one r.earlier (a_view (view_of v)) later

  pub views_step : (w : CodeOfView) (xs : List CodeOfView) → Reached s whole (map view_of (drop i vs)) ws → (view_fault s (view_of v) ≡ None) × HasCode s (view_of v) (view_code w) → xs ≡ ws ++ w ∷ [] →
      Reached s whole (map view_of (drop (i + 1) vs)) xs
  views_step w xs g k n =
      let r = step_at g in
      record {
        earlier = r.earlier ++ a_view (view_of v) ∷ [];
        same = typed_next r k.0;
        typed = subst (λ x. AreViews s (r.earlier ++ a_view (view_of v) ∷ []) (view_codes x)) (sym n) (views_last s r.earlier ws (view_of v) w r.typed k.1);
      }

  pub views_fault : (z : CheckError) (vs_all : List TypedView) → whole ≡ with_views s vs_all → Reached s whole (map view_of (drop i vs)) ws → IsView s (view_of v) (Err z) → AreTypedViews s vs_all (Err z)
  views_fault (error.IllTyped l) vs_all w g k =
      let r = step_at g in
      let later = with_views s (map view_of (drop (i + 1) vs)) in
      sym w ∙ r.same ∙ ap (λ o. behind r.earlier (unless_fault o (and_then later (λ xs. found (a_view (view_of v) ∷ xs))))) k
  views_fault error.Memory vs_all w g k = tt

pub views_end : (s : Kind) (whole : Found (List View)) (vs : List Item) (i : ℕ) (ws : List CodeOfView) → length vs ≤ i → Reached s whole (map view_of (drop i vs)) ws → AreViewsOf s whole ws
views_end s whole vs i ws h g = record {
  views = g.earlier;
  whole = g.same ∙ ap (λ xs. behind g.earlier (with_views s (map view_of xs))) (drop_all i vs h) ∙ ap found (append-nil g.earlier);
  typed = g.typed;
}

-- the largest body of views is smaller than what they are smaller than
pub largest_small : (n : ℕ) (vs : List Item) → 0 < n → ViewsSmall n (map view_of vs) → largest_of vs < n
largest_small n [] p h = p
largest_small n (v ∷ vs) p h = omega (arith, h.0, largest_small n vs p h.1)

-- ---- scripts

script_is : (at : ℕ) (t : Tree) → script_at t at ≡ and_then (outline_at at t) with_bodies
script_is at (int n) = refl
script_is at (str s) = refl
script_is at (bytes b) = refl
script_is at (prim name annots ts) = refl
script_is at (seq ts) = refl

found_here : {A : Type 0} (at : ℕ) (f : Found A) (x : A) → found_at at f ≡ found x → f ≡ found x
found_here at (found y) x e = e
found_here at (fault l) x e = absurd cc

-- what is accepted at a location is accepted anywhere
accepted : (at : ℕ) (t : Tree) (s : Script) → script_at t at ≡ found s → script t ≡ found s
accepted at t s e =
    let same : at + 0 ≡ at = omega arith in
    found_here at (script t) s (sym (script_moves at 0 t) ∙ ap (script_at t) same ∙ e)

some_size : (t : Tree) → 0 < size t
some_size (int n) = omega arith
some_size (str s) = omega arith
some_size (bytes b) = omega arith
some_size (prim name annots ts) = omega arith
some_size (seq ts) = omega arith

module _ (at : ℕ) (t : Tree) (o : Outline) (h : outline_at at t ≡ found o) where
  bodies_of : script_at t at ≡ with_bodies o
  bodies_of = script_is at t ∙ ap (λ f. and_then f with_bodies) h

  pub code_size : size o.code.node < size t
  code_size = (bodies_small at t o h).code

  module _ (is : List Instr) (k : IsScriptCode o (Ok is)) where
    views_of_script : script_at t at ≡ and_then (with_views o.storage o.views) (λ vs. found (a_script o vs))
    views_of_script = bodies_of ∙ ap (λ f. unless_fault f (and_then (with_views o.storage o.views) (λ vs. found (a_script o vs)))) k.0

    pub script_typed : (ws : List CodeOfView) (z : CodeScript) → AreTypedViews o.storage o.views (Ok ws) → script_code z ≡ script_made t o (codes is) (view_codes ws) → IsTypedAt at t (Ok z)
    script_typed ws z m e =
        let whole : script t ≡ found (a_script o m.views) = accepted at t (a_script o m.views) (views_of_script ∙ ap (λ f. and_then f (λ vs. found (a_script o vs))) m.whole) in
        let written : script t ≡ found (record { parameter = o.parameter; entries = o.entries; storage = o.storage; code = seq (inside o.code.node); views = m.views }) =
        whole ∙ ap (λ b. found (record { parameter = o.parameter; entries = o.entries; storage = o.storage; code = b; views = m.views })) k.1 in
        let node : script_node z ≡ t = ap node_of e in
        (node, subst (λ x. IsScript x (script_code z)) (sym node) (subst (IsScript t) (sym e) (is_script written k.2 m.typed)))

pub views_largest : (at : ℕ) (t : Tree) (o : CodeOutline) → outline_at at t ≡ found (outline_of o) → largest_of o.views < size t
views_largest at t o h = largest_small (size t) o.views (some_size t) (bodies_small at t (outline_of o) h).views
