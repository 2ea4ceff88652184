-- MAP, and its further turns.
use Rattle.std.proofs.Common.{◌≡◌, ℕ, List, [], ◌∷◌, ◌++◌, Some, refl, sym, ap, ◌∙◌, subst}
use Rattle.rules_text.specs.nodes.Tree.{Trees, prim, seq, none, more}
use Rattle.rules_data.specs.declared.gas.Kind.TheVariants as g
use Rattle.rules_data.specs.types.Kind.{Kind}
use Rattle.rules_code.specs.instructions.Context.{Context}
use Rattle.rules_data.specs.values.Val.{Val}
use Rattle.rules_code.specs.steps.Failure as f
use Rattle.rules_code.specs.evaluation.Operations.{Tally}
use Rattle.rules_code.specs.evaluation.Outcome.{Outcome, failed, after, only_if, unless_stuck}
use Rattle.mich_instr.specs.Code.{Codes}
use Rattle.mich_instr.specs.Code as made
use Rattle.mich_frames.specs.Around.{Around, at, less, Pays, Lacks}
use Rattle.mich_frames.specs.Pending.{Pending, depth_of, block_run, resume}
use Rattle.mich_frames.specs.Pending as p
use Rattle.mich_frames.specs.Fine.{IsFine}
use Rattle.mich_frames.specs.Frames.{Frame, Rests}
use Rattle.mich_frames.specs.Frames as fr
use Rattle.mich_frames.specs.Stands.{Runs, StandsAt, MeetsAt, OpensAt}
use Rattle.mich_frames.proofs.Paying.{after_after, when_paid, when_broke}
use Rattle.mich_frames.proofs.Made.{stands_of, opens_of, form_is, Case, meets_by, block_of, small_one, FineCase, meets_fine}
use Rattle.mich_frames.proofs.Fine.{node_types, over_mapped, next_mapped, one_made, all_made}
use Rattle.mich_instr.proofs.bodies.ForCallers.{map_leads, map_goes}
use Rattle.rules_code.specs.instructions.Same.{same_kinds}
use Rattle.rules_code.specs.typing.Typing.{part_kind}
use Rattle.rules_code.specs.typing.Nodes.{trees_type}
use Rattle.rules_code.specs.evaluation.Branches.{paid}
use Rattle.rules_code.specs.evaluation.Shapes.{on_top}
use Rattle.rules_code.specs.evaluation.Items.{with_items, rebuilt}
use Rattle.rules_code.specs.evaluation.Loops.{map_each_run, map_run}
use Rattle.rules_code.specs.evaluation.Evaluation.{result_kind}
use Rattle.laws_data.proofs.types_lemmas.ForCallers.{same_kinds_refl}
use Rattle.mich_instr.specs.Typed.{IsMapped, is_map}
use Rattle.mich_frames.specs.Pending.{Mapping, mapping_run}
use Rattle.mich_frames.specs.Shapes.{HasTop, HasMapped, items_in}
use Rattle.mich_frames.proofs.Shapes.{has_top}
use Rattle.mich_frames.proofs.Items.{mapped_are}

abbrev mapping_of : Kind → Kind → Kind → Val → List Kind → Trees → Mapping
mapping_of a b s x A ts = record { item = a; result = b; collection = s; over = x; below = A; body = ts }

-- what MAP goes on with, once it has the items and the type of its results
abbrev Mapped : Around → Tally → Outcome → Mapping → List Val → Context → List Pending → Type 0
Mapped u m o w W c ps =
    after (paid (at u c) g.Map m (λ m. mapping_run w [] (items_in w.over) (at u c) (depth_of ps) w.below W m)) (resume ps (at u c)) ≡ o

module _ (u : Around) (m : Tally) (o : Outcome) (runs : Runs u o) where
  map_over : (ts : Trees) (s a b r : Kind) (V : List Val) (c : Context) (ps : List Pending) (A : List Kind) → IsMapped s a b r → part_kind (trees_type ts c (a ∷ A)) A ≡ Some b →
      after (map_run (result_kind ts c) (block_run ts) (at u c) (depth_of ps) (s ∷ A) V m) (resume ps (at u c)) ≡ o →
      HasMapped V × (with_items s b ≡ r) × ((x : Val) (W : List Val) → V ≡ x ∷ W → Mapped u m o (mapping_of a b s x A ts) W c ps)
  map_over ts s a b r [] c ps A parts part e = absurd (runs.sound (sym e))
  map_over ts s a b r (x ∷ W) c ps A parts part e =
      let go : Kind → List Val → Kind → Outcome = λ i xs b. paid (at u c) g.Map m (λ m. map_each_run (block_run ts) i b (rebuilt x) (with_items s b) [] xs (at u c) (depth_of ps) A W m) in
      let all = mapped_are (resume ps (at u c)) o runs.sound s a b r x W (λ i. unless_stuck (result_kind ts c i.kind A) (go i.kind i.values)) parts e in
      let last : Mapped u m o (mapping_of a b s x A ts) W c ps = sym (ap (λ q. after (unless_stuck q (go a (items_in x))) (resume ps (at u c))) part) ∙ all.1 in
      (all.0, all.2, λ y X f. (let g : x ≡ y = cc in let h : W ≡ X = cc in subst (λ z. Mapped u m o (mapping_of a b s z A ts) X c ps) g (subst (λ Y. Mapped u m o (mapping_of a b s x A ts) Y c ps) h last)))

module _ {fs : List Frame} {u : Around} {m : Tally} {d : ℕ} {Z : List Kind} {o : Outcome} where
  pub map_top : {is : Codes} {V : List Val} → MeetsAt (made.map is) fs u V m d Z o → HasMapped V
  map_top {is = is} {V = V} h = meets_by h by
    where
      by : Case (made.map is) fs u V m d Z o (HasMapped V)
      by ps c _ _ M (is_map {ts = ts} {s = s} {a = a} {b = b} {r = r} {A = A} form parts part fine) rests depth same =
          (map_over u m o h.runs ts s a b r V c ps A parts part (ap (λ p. after p (resume ps (at u c))) (sym (form_is _ _ _ _ _ _ _ V m form)) ∙ same)).0

  pub map_acts : {is : Codes} (x : Val) {W : List Val} → Pays u g.Map 0 m → MeetsAt (made.map is) fs u (x ∷ W) m d Z o → StandsAt (fr.mapping is x [] (items_in x) ∷ fs) u W (less u g.Map 0 m) d Z o
  map_acts {is = is} x {W = W} pays h = meets_fine h by
    where
      by : FineCase (made.map is) fs u (x ∷ W) m d Z o (StandsAt (fr.mapping is x [] (items_in x) ∷ fs) u W (less u g.Map 0 m) d Z o)
      by ps c _ _ _ (is_map {name = name} {annots = annots} {ts = ts} {s = s} {a = a} {b = b} {r = r} {A = A} form parts part fine) rests depth same typed small holds =
          let w : Mapping = mapping_of a b s x A ts in
          let over = map_over u m o h.runs ts s a b r (x ∷ W) c ps A parts part (ap (λ p. after p (resume ps (at u c))) (sym (form_is _ _ _ _ _ _ _ _ m form)) ∙ same) in
          stands_of h.runs (p.mapping w [] (items_in x) ∷ ps) c A (fr.rests_mapping (block_of fine (map_leads part fine) (small_one name annots ts small)) (subst (λ z. Rests fs ps u c (z ∷ A) Z) (sym over.1) rests)) depth
          (ap (λ q. after (only_if q (mapping_run w [] (items_in x) (at u c) (depth_of ps) A W (less u g.Map 0 m))) (resume ps (at u c))) (same_kinds_refl A)
          ∙ when_paid u g.Map 0 m (λ m. mapping_run w [] (items_in x) (at u c) (depth_of ps) A W m) o _ (resume ps (at u c)) refl pays (over.2 x W refl))
          (over_mapped ts parts (node_types (prim name annots (more (seq ts) none)) (r ∷ A) (map_goes name annots c ts A _ form parts part typed) holds).0 holds)

  pub map_broke : {is : Codes} (x : Val) {W : List Val} → Lacks u g.Map 0 m → MeetsAt (made.map is) fs u (x ∷ W) m d Z o → o ≡ failed f.out_of_gas
  map_broke {is = is} x {W = W} lacks h = meets_by h by
    where
      by : Case (made.map is) fs u (x ∷ W) m d Z o (o ≡ failed f.out_of_gas)
      by ps c _ _ _ (is_map {ts = ts} {s = s} {a = a} {b = b} {r = r} {A = A} form parts part fine) rests depth same =
          let over = map_over u m o h.runs ts s a b r (x ∷ W) c ps A parts part (ap (λ p. after p (resume ps (at u c))) (sym (form_is _ _ _ _ _ _ _ _ m form)) ∙ same) in
          when_broke u g.Map 0 m (λ m. mapping_run (mapping_of a b s x A ts) [] (items_in x) (at u c) (depth_of ps) A W m) o _ (resume ps (at u c)) refl lacks (over.2 x W refl)

-- ---- the items that are left

mapping_same : (u : Around) (m : Tally) (o : Outcome) (c : Context) (ps : List Pending) (w : Mapping) (V ys xs : List Val) → resume (p.mapping w ys xs ∷ ps) (at u c) w.below V m ≡ o →
    after (mapping_run w ys xs (at u c) (depth_of ps) w.below V m) (resume ps (at u c)) ≡ o
mapping_same u m o c ps w V ys xs same =
    ap (λ q. after (only_if q (mapping_run w ys xs (at u c) (depth_of ps) w.below V m)) (resume ps (at u c))) (sym (same_kinds_refl w.below)) ∙ same

-- an item's result is made
making_same : (u : Around) (m : Tally) (o : Outcome) (c : Context) (ps : List Pending) (w : Mapping) (V ys xs : List Val) → resume (p.making w ys xs ∷ ps) (at u c) (w.result ∷ w.below) V m ≡ o →
    after (on_top (w.result ∷ w.below) V (λ _ B y W. mapping_run w (ys ++ y ∷ []) xs (at u c) (depth_of ps) B W m)) (resume ps (at u c)) ≡ o
making_same u m o c ps w V ys xs same =
    ap (λ q. after (only_if q (on_top (w.result ∷ w.below) V (λ _ B y W. mapping_run w (ys ++ y ∷ []) xs (at u c) (depth_of ps) B W m))) (resume ps (at u c))) (sym (same_kinds_refl (w.result ∷ w.below))) ∙ same

module _ {fs : List Frame} {u : Around} {m : Tally} {d : ℕ} {Z : List Kind} {o : Outcome} where
  pub mapping_end : {is : Codes} {over : Val} {ys V : List Val} → StandsAt (fr.mapping is over ys [] ∷ fs) u V m d Z o → StandsAt fs u (rebuilt over ys ∷ V) m d Z o
  mapping_end {is = is} {over = over} {ys = ys} {V = V} h = by over h.pending h.context h.types h.rests h.depth h.same h.holds
    where
      by : (over : Val) (ps : List Pending) (c : Context) (A : List Kind) → Rests (fr.mapping is over ys [] ∷ fs) ps u c A Z → d ≡ depth_of ps → resume ps (at u c) A V m ≡ o → IsFine u c ps A V m.issued m.changes → StandsAt fs u (rebuilt over ys ∷ V) m d Z o
      by _ _ c _ (fr.rests_mapping {ps = ps} {m = w} fine rests) depth same holds =
          stands_of h.runs ps c (with_items w.collection w.result ∷ w.below) rests depth (mapping_same u m o c ps w V ys [] same) (all_made holds)

  pub mapping_broke : {is : Codes} {over : Val} {ys : List Val} (x : Val) (xs : List Val) {V : List Val} → Lacks u g.Turn 0 m → StandsAt (fr.mapping is over ys (x ∷ xs) ∷ fs) u V m d Z o → o ≡ failed f.out_of_gas
  mapping_broke {is = is} {over = over} {ys = ys} x xs {V = V} lacks h = by over h.pending h.context h.types h.rests h.same
    where
      by : (over : Val) (ps : List Pending) (c : Context) (A : List Kind) → Rests (fr.mapping is over ys (x ∷ xs) ∷ fs) ps u c A Z → resume ps (at u c) A V m ≡ o → o ≡ failed f.out_of_gas
      by _ _ c _ (fr.rests_mapping {ps = ps} {m = w} fine rests) same =
          when_broke u g.Turn 0 m _ o _ (resume ps (at u c)) refl lacks (mapping_same u m o c ps w V ys (x ∷ xs) same)

  pub mapping_opens : {is : Codes} {over : Val} {ys : List Val} (x : Val) (xs : List Val) {V : List Val} → Pays u g.Turn 0 m → StandsAt (fr.mapping is over ys (x ∷ xs) ∷ fs) u V m d Z o →
      OpensAt is (fr.making is over ys xs ∷ fs) u (x ∷ V) (less u g.Turn 0 m) d Z o
  mapping_opens {is = is} {over = over} {ys = ys} x xs {V = V} pays h = by over h.pending h.context h.types h.rests h.depth h.same h.holds
    where
      by : (over : Val) (ps : List Pending) (c : Context) (A : List Kind) → Rests (fr.mapping is over ys (x ∷ xs) ∷ fs) ps u c A Z → d ≡ depth_of ps → resume ps (at u c) A V m ≡ o → IsFine u c ps A V m.issued m.changes →
          OpensAt is (fr.making is over ys xs ∷ fs) u (x ∷ V) (less u g.Turn 0 m) d Z o
      by _ _ c _ (fr.rests_mapping {ps = ps} {m = w} fine rests) depth same holds =
          opens_of h.runs (p.making w ys xs ∷ ps) c w.body (w.item ∷ w.below) (w.result ∷ w.below) fine (fr.rests_making fine rests) depth
          (sym (after_after (block_run w.body (at u c) (depth_of ps) (w.item ∷ w.below) (x ∷ V) (less u g.Turn 0 m))
          (λ C X m. only_if (same_kinds C (w.result ∷ w.below)) (on_top C X (λ _ B y W. mapping_run w (ys ++ y ∷ []) xs (at u c) (depth_of ps) B W m))) (resume ps (at u c)))
          ∙ when_paid u g.Turn 0 m _ o _ (resume ps (at u c)) refl pays (mapping_same u m o c ps w V ys (x ∷ xs) same)) (next_mapped holds)

  pub making_top : {is : Codes} {over : Val} {ys xs V : List Val} → StandsAt (fr.making is over ys xs ∷ fs) u V m d Z o → HasTop V
  making_top {is = is} {over = over} {ys = ys} {xs = xs} {V = V} h = by over h.pending h.context h.types h.rests h.same
    where
      by : (over : Val) (ps : List Pending) (c : Context) (A : List Kind) → Rests (fr.making is over ys xs ∷ fs) ps u c A Z → resume ps (at u c) A V m ≡ o → HasTop V
      by _ _ c _ (fr.rests_making {ps = ps} {m = w} fine rests) same = has_top (resume ps (at u c)) o h.runs.sound (w.result ∷ w.below) V _ (making_same u m o c ps w V ys xs same)

  pub making_ends : {is : Codes} {over : Val} {ys xs : List Val} (y : Val) {W : List Val} → StandsAt (fr.making is over ys xs ∷ fs) u (y ∷ W) m d Z o → StandsAt (fr.mapping is over (ys ++ y ∷ []) xs ∷ fs) u W m d Z o
  making_ends {is = is} {over = over} {ys = ys} {xs = xs} y {W = W} h = by over h.pending h.context h.types h.rests h.depth h.same h.holds
    where
      by : (over : Val) (ps : List Pending) (c : Context) (A : List Kind) → Rests (fr.making is over ys xs ∷ fs) ps u c A Z → d ≡ depth_of ps → resume ps (at u c) A (y ∷ W) m ≡ o → IsFine u c ps A (y ∷ W) m.issued m.changes →
          StandsAt (fr.mapping is over (ys ++ y ∷ []) xs ∷ fs) u W m d Z o
      by _ _ c _ (fr.rests_making {ps = ps} {m = w} fine rests) depth same holds =
          stands_of h.runs (p.mapping w (ys ++ y ∷ []) xs ∷ ps) c w.below (fr.rests_mapping fine rests) depth
          (ap (λ q. after (only_if q (mapping_run w (ys ++ y ∷ []) xs (at u c) (depth_of ps) w.below W m)) (resume ps (at u c))) (same_kinds_refl w.below)
          ∙ making_same u m o c ps w (y ∷ W) ys xs same) (one_made holds)
