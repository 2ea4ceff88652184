-- What ITER and MAP go over, and their further turns.
use Rattle.std.proofs.Common.{◌≡◌, ℕ, List, [], ◌∷◌, refl, sym, ap, ◌∙◌, subst}
use Rattle.rules_text.specs.nodes.Tree.{Trees}
use Rattle.rules_data.specs.declared.gas.Kind.TheVariants as g
use Rattle.rules_data.specs.types.Kind.{Kind}
use Rattle.rules_code.specs.instructions.Context.{Context}
use Rattle.rules_data.specs.values.Val.{Val}
use Rattle.rules_data.specs.values.Val as v
use Rattle.rules_code.specs.steps.Failure as f
use Rattle.rules_code.specs.evaluation.Operations.{Tally}
use Rattle.rules_code.specs.evaluation.Outcome.{Outcome, failed, stuck, Go, after, only_if, unless_stuck}
use Rattle.mich_instr.specs.Code.{Codes}
use Rattle.mich_instr.specs.Code as made
use Rattle.mich_frames.specs.Around.{Around, at, less, Pays, Lacks}
use Rattle.mich_frames.specs.Pending.{Pending, depth_of, block_run, resume}
use Rattle.mich_frames.specs.Pending as p
use Rattle.mich_frames.specs.Fine.{IsFine}
use Rattle.mich_frames.specs.Frames.{Frame, Rests}
use Rattle.mich_frames.specs.Frames as fr
use Rattle.mich_frames.specs.Stands.{Runs, StandsAt, MeetsAt, OpensAt}
use Rattle.mich_frames.proofs.Paying.{after_after, when_paid, when_broke}
use Rattle.mich_frames.proofs.Made.{stands_of, opens_of, form_is, Case, meets_by, block_of, small_one, FineCase, meets_fine}
use Rattle.mich_frames.proofs.Fine.{over_items, next_item, no_item}
use Rattle.mich_instr.proofs.bodies.ForCallers.{iter_leads}
use Rattle.rules_code.specs.instructions.Same.{same_kinds}
use Rattle.rules_code.specs.evaluation.Branches.{paid}
use Rattle.rules_code.specs.evaluation.Items.{Items, items, mapped_items, with_items}
use Rattle.rules_code.specs.evaluation.Loops.{each_run, iter_run}
use Rattle.laws_data.proofs.types_lemmas.ForCallers.{same_kinds_refl}
use Rattle.mich_instr.specs.Typed.{HasParts, of_list, of_set, of_map, IsMapped, to_list, to_option, to_map, is_iter}
use Rattle.mich_frames.specs.Shapes.{HasItems, HasMapped, items_in}

module _ (l : Go) (o : Outcome) (sound : o ≡ stuck → ⊥) where
  -- the items of a value of a type that has parts
  items_are : (s a : Kind) (x : Val) (W : List Val) (go : Items → Outcome) → HasParts s a → after (unless_stuck (items s x) go) l ≡ o →
      HasItems (x ∷ W) × (after (go record { kind = a; values = items_in x }) l ≡ o)
  items_are _ _ (v.list xs) W go of_list e = (tt, e)
  items_are _ _ (v.set xs) W go of_list e = absurd (sound (sym e))
  items_are _ _ (v.table es) W go of_list e = absurd (sound (sym e))
  items_are _ _ _ W go of_list e = absurd (sound (sym e))
  items_are _ _ (v.set xs) W go of_set e = (tt, e)
  items_are _ _ (v.list xs) W go of_set e = absurd (sound (sym e))
  items_are _ _ (v.table xs) W go of_set e = absurd (sound (sym e))
  items_are _ _ _ W go of_set e = absurd (sound (sym e))
  items_are _ _ (v.table es) W go of_map e = (tt, e)
  items_are _ _ (v.list xs) W go of_map e = absurd (sound (sym e))
  items_are _ _ (v.set xs) W go of_map e = absurd (sound (sym e))
  items_are _ _ _ W go of_map e = absurd (sound (sym e))

  pub mapped_are : (s a b r : Kind) (x : Val) (W : List Val) (go : Items → Outcome) → IsMapped s a b r → after (unless_stuck (mapped_items s x) go) l ≡ o →
      HasMapped (x ∷ W) × (after (go record { kind = a; values = items_in x }) l ≡ o) × (with_items s b ≡ r)
  mapped_are _ _ _ _ (v.list xs) W go to_list e = (tt, e, refl)
  mapped_are _ _ _ _ (v.table xs) W go to_list e = absurd (sound (sym e))
  mapped_are _ _ _ _ (v.some x) W go to_list e = absurd (sound (sym e))
  mapped_are _ _ _ _ v.nothing W go to_list e = absurd (sound (sym e))
  mapped_are _ _ _ _ _ W go to_list e = absurd (sound (sym e))
  mapped_are _ _ _ _ (v.table es) W go to_map e = (tt, e, refl)
  mapped_are _ _ _ _ (v.list xs) W go to_map e = absurd (sound (sym e))
  mapped_are _ _ _ _ (v.some x) W go to_map e = absurd (sound (sym e))
  mapped_are _ _ _ _ v.nothing W go to_map e = absurd (sound (sym e))
  mapped_are _ _ _ _ _ W go to_map e = absurd (sound (sym e))
  mapped_are _ _ _ _ (v.some x) W go to_option e = (tt, e, refl)
  mapped_are _ _ _ _ v.nothing W go to_option e = (tt, e, refl)
  mapped_are _ _ _ _ (v.list xs) W go to_option e = absurd (sound (sym e))
  mapped_are _ _ _ _ (v.table xs) W go to_option e = absurd (sound (sym e))
  mapped_are _ _ _ _ _ W go to_option e = absurd (sound (sym e))

-- ---- ITER

-- what ITER goes on with, once it has the items
abbrev Iterated : Around → Tally → Outcome → Trees → Kind → Val → List Val → Context → List Pending → List Kind → Type 0
Iterated u m o ts a x W c ps A =
    after (paid (at u c) g.Iter m (λ m. each_run (block_run ts) a (items_in x) (at u c) (depth_of ps) A W m)) (resume ps (at u c)) ≡ o

module _ (u : Around) (m : Tally) (o : Outcome) (runs : Runs u o) where
  iter_over : (ts : Trees) (s a : Kind) (V : List Val) (c : Context) (ps : List Pending) (A : List Kind) → HasParts s a →
      after (iter_run (block_run ts) (at u c) (depth_of ps) (s ∷ A) V m) (resume ps (at u c)) ≡ o →
      HasItems V × ((x : Val) (W : List Val) → V ≡ x ∷ W → Iterated u m o ts a x W c ps A)
  iter_over ts s a [] c ps A parts e = absurd (runs.sound (sym e))
  iter_over ts s a (x ∷ W) c ps A parts e =
      let both = items_are (resume ps (at u c)) o runs.sound s a x W (λ i. paid (at u c) g.Iter m (λ m. each_run (block_run ts) i.kind i.values (at u c) (depth_of ps) A W m)) parts e in
      (both.0, λ y X f. (let g : x ≡ y = cc in let h : W ≡ X = cc in subst (λ z. Iterated u m o ts a z X c ps A) g (subst (λ Y. Iterated u m o ts a x Y c ps A) h both.1)))

module _ {fs : List Frame} {u : Around} {m : Tally} {d : ℕ} {Z : List Kind} {o : Outcome} where
  pub iter_top : {is : Codes} {V : List Val} → MeetsAt (made.iter is) fs u V m d Z o → HasItems V
  iter_top {is = is} {V = V} h = meets_by h by
    where
      by : Case (made.iter is) fs u V m d Z o (HasItems V)
      by ps c _ _ M (is_iter {ts = ts} {s = s} {a = a} {A = A} form parts fine) rests depth same =
          (iter_over u m o h.runs ts s a V c ps A parts (ap (λ p. after p (resume ps (at u c))) (sym (form_is _ _ _ _ _ _ _ V m form)) ∙ same)).0

  pub iter_acts : {is : Codes} (x : Val) {W : List Val} → Pays u g.Iter 0 m → MeetsAt (made.iter is) fs u (x ∷ W) m d Z o → StandsAt (fr.each is (items_in x) ∷ fs) u W (less u g.Iter 0 m) d Z o
  iter_acts {is = is} x {W = W} pays h = meets_fine h by
    where
      by : FineCase (made.iter is) fs u (x ∷ W) m d Z o (StandsAt (fr.each is (items_in x) ∷ fs) u W (less u g.Iter 0 m) d Z o)
      by ps c _ _ M (is_iter {name = name} {annots = annots} {ts = ts} {s = s} {a = a} {A = A} form parts fine) rests depth same typed small holds =
          stands_of h.runs (p.each a A ts (items_in x) ∷ ps) c A (fr.rests_each (block_of fine (iter_leads name annots M form parts fine typed) (small_one name annots ts small)) rests) depth
          (ap (λ q. after (only_if q (each_run (block_run ts) a (items_in x) (at u c) (depth_of ps) A W (less u g.Iter 0 m))) (resume ps (at u c))) (same_kinds_refl A)
          ∙ when_paid u g.Iter 0 m (λ m. each_run (block_run ts) a (items_in x) (at u c) (depth_of ps) A W m) o _ (resume ps (at u c)) refl pays
          ((iter_over u m o h.runs ts s a (x ∷ W) c ps A parts (ap (λ p. after p (resume ps (at u c))) (sym (form_is _ _ _ _ _ _ _ _ m form)) ∙ same)).1 x W refl)) (over_items ts parts holds)

  pub iter_broke : {is : Codes} (x : Val) {W : List Val} → Lacks u g.Iter 0 m → MeetsAt (made.iter is) fs u (x ∷ W) m d Z o → o ≡ failed f.out_of_gas
  iter_broke {is = is} x {W = W} lacks h = meets_by h by
    where
      by : Case (made.iter is) fs u (x ∷ W) m d Z o (o ≡ failed f.out_of_gas)
      by ps c _ _ M (is_iter {ts = ts} {s = s} {a = a} {A = A} form parts fine) rests depth same =
          when_broke u g.Iter 0 m (λ m. each_run (block_run ts) a (items_in x) (at u c) (depth_of ps) A W m) o _ (resume ps (at u c)) refl lacks
          ((iter_over u m o h.runs ts s a (x ∷ W) c ps A parts (ap (λ p. after p (resume ps (at u c))) (sym (form_is _ _ _ _ _ _ _ _ m form)) ∙ same)).1 x W refl)

-- the items that are left

each_same : (u : Around) (m : Tally) (o : Outcome) (c : Context) (ps : List Pending) (ts : Trees) (a : Kind) (B : List Kind) (V xs : List Val) → resume (p.each a B ts xs ∷ ps) (at u c) B V m ≡ o →
    after (each_run (block_run ts) a xs (at u c) (depth_of ps) B V m) (resume ps (at u c)) ≡ o
each_same u m o c ps ts a B V xs same =
    ap (λ q. after (only_if q (each_run (block_run ts) a xs (at u c) (depth_of ps) B V m)) (resume ps (at u c))) (sym (same_kinds_refl B)) ∙ same

module _ {fs : List Frame} {u : Around} {m : Tally} {d : ℕ} {Z : List Kind} {o : Outcome} where
  pub each_end : {is : Codes} {V : List Val} → StandsAt (fr.each is [] ∷ fs) u V m d Z o → StandsAt fs u V m d Z o
  each_end {is = is} {V = V} h = by h.pending h.context h.types h.rests h.depth h.same h.holds
    where
      by : (ps : List Pending) (c : Context) (A : List Kind) → Rests (fr.each is [] ∷ fs) ps u c A Z → d ≡ depth_of ps → resume ps (at u c) A V m ≡ o → IsFine u c ps A V m.issued m.changes → StandsAt fs u V m d Z o
      by _ c B (fr.rests_each {ps = ps} {ts = ts} {a = a} fine rests) depth same holds = stands_of h.runs ps c B rests depth (each_same u m o c ps ts a B V [] same) (no_item holds)

  pub each_broke : {is : Codes} (x : Val) (xs : List Val) {V : List Val} → Lacks u g.Turn 0 m → StandsAt (fr.each is (x ∷ xs) ∷ fs) u V m d Z o → o ≡ failed f.out_of_gas
  each_broke {is = is} x xs {V = V} lacks h = by h.pending h.context h.types h.rests h.same
    where
      by : (ps : List Pending) (c : Context) (A : List Kind) → Rests (fr.each is (x ∷ xs) ∷ fs) ps u c A Z → resume ps (at u c) A V m ≡ o → o ≡ failed f.out_of_gas
      by _ c B (fr.rests_each {ps = ps} {ts = ts} {a = a} fine rests) same =
          when_broke u g.Turn 0 m _ o _ (resume ps (at u c)) refl lacks (each_same u m o c ps ts a B V (x ∷ xs) same)

  pub each_opens : {is : Codes} (x : Val) (xs : List Val) {V : List Val} → Pays u g.Turn 0 m → StandsAt (fr.each is (x ∷ xs) ∷ fs) u V m d Z o → OpensAt is (fr.each is xs ∷ fs) u (x ∷ V) (less u g.Turn 0 m) d Z o
  each_opens {is = is} x xs {V = V} pays h = by h.pending h.context h.types h.rests h.depth h.same h.holds
    where
      by : (ps : List Pending) (c : Context) (A : List Kind) → Rests (fr.each is (x ∷ xs) ∷ fs) ps u c A Z → d ≡ depth_of ps → resume ps (at u c) A V m ≡ o → IsFine u c ps A V m.issued m.changes → OpensAt is (fr.each is xs ∷ fs) u (x ∷ V) (less u g.Turn 0 m) d Z o
      by _ c B (fr.rests_each {ps = ps} {ts = ts} {a = a} fine rests) depth same holds =
          opens_of h.runs (p.each a B ts xs ∷ ps) c ts (a ∷ B) B fine (fr.rests_each fine rests) depth
          (sym (after_after (block_run ts (at u c) (depth_of ps) (a ∷ B) (x ∷ V) (less u g.Turn 0 m)) (λ C X m. only_if (same_kinds C B) (each_run (block_run ts) a xs (at u c) (depth_of ps) C X m)) (resume ps (at u c)))
          ∙ when_paid u g.Turn 0 m _ o _ (resume ps (at u c)) refl pays (each_same u m o c ps ts a B V (x ∷ xs) same)) (next_item holds)
