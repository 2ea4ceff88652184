-- LOOP and LOOP_LEFT, and the further turns of both.
use Rattle.std.proofs.Common.{◌≡◌, ℕ, Bool, true, false, List, ◌∷◌, refl, sym, ap, ◌∙◌, arith}
use Rattle.rules_text.specs.nodes.Tree.{Trees}
use Rattle.rules_data.specs.declared.gas.Kind.TheVariants as g
use Rattle.rules_data.specs.types.Kind.{Kind}
use Rattle.rules_data.specs.types.Kind as k
use Rattle.rules_code.specs.instructions.Types as t
use Rattle.rules_code.specs.instructions.Context.{Context}
use Rattle.rules_data.specs.values.Val.{Val}
use Rattle.rules_data.specs.values.Val as v
use Rattle.rules_code.specs.steps.Failure as f
use Rattle.rules_code.specs.evaluation.Operations.{Tally}
use Rattle.rules_code.specs.evaluation.Outcome.{Outcome, failed, after, only_if}
use Rattle.rules_code.specs.evaluation.Evaluation.{eval_task}
use Rattle.mich_instr.specs.Code.{Codes}
use Rattle.mich_instr.specs.Code as made
use Rattle.mich_frames.specs.Around.{Around, at, less, Pays, Lacks}
use Rattle.mich_frames.specs.Pending.{Pending, depth_of, block_run, resume}
use Rattle.mich_frames.specs.Pending as p
use Rattle.mich_frames.specs.Fine.{IsFine}
use Rattle.mich_frames.specs.Frames.{Frame, Rests}
use Rattle.mich_frames.specs.Frames as fr
use Rattle.mich_frames.specs.Stands.{Runs, StandsAt, MeetsAt, OpensAt}
use Rattle.mich_frames.proofs.Paying.{after_after, when_paid, when_broke}
use Rattle.mich_frames.proofs.Made.{stands_of, opens_of, form_is, Case, meets_by, block_of, small_one, FineCase, meets_fine}
use Rattle.mich_frames.proofs.Fine.{over_turns, off_turns, over_left, off_left, off_top, new_top}
use Rattle.std.proofs.lemmas.Int.{ints}
use Rattle.laws_code.proofs.stacks.ForCallers.{type_left, type_right}
use Rattle.mich_instr.proofs.bodies.ForCallers.{loop_leads, loop_left_leads}
use Rattle.rules_code.specs.instructions.Same.{same_kinds}
use Rattle.rules_code.specs.evaluation.Loops.{turns_run, left_turns_run}
use Rattle.rules_code.specs.evaluation.Evaluation.{turns, left_turns}
use Rattle.laws_code.proofs.evaluation_lemmas.ForCallers.{eval_is}
use Rattle.laws_data.proofs.types_lemmas.ForCallers.{same_kinds_refl}
use Rattle.mich_instr.specs.Typed.{is_loop, is_loop_left}
use Rattle.mich_frames.specs.Shapes.{HasTruth, HasUnion}
use Rattle.mich_frames.proofs.Shapes.{has_truth, has_union}

module _ {fs : List Frame} {u : Around} {m : Tally} {d : ℕ} {Z : List Kind} {o : Outcome} where
  -- ---- LOOP

  pub loop_top : {is : Codes} {V : List Val} → MeetsAt (made.loop is) fs u V m d Z o → HasTruth V
  loop_top {is = is} {V = V} h = meets_by h by
    where
      by : Case (made.loop is) fs u V m d Z o (HasTruth V)
      by ps c _ _ M (is_loop {ts = ts} {A = A} form fine) rests depth same =
          has_truth (resume ps (at u c)) o h.runs.sound A V _ (ap (λ p. after p (resume ps (at u c))) (sym (form_is _ _ _ _ _ _ _ V m form)) ∙ same)

  pub loop_acts : {is : Codes} (b : Bool) {W : List Val} → Pays u g.Loop 0 m → MeetsAt (made.loop is) fs u (v.truth b ∷ W) m d Z o → StandsAt (fr.turns is ∷ fs) u (v.truth b ∷ W) (less u g.Loop 0 m) d Z o
  loop_acts {is = is} b {W = W} pays h = meets_fine h by
    where
      by : FineCase (made.loop is) fs u (v.truth b ∷ W) m d Z o (StandsAt (fr.turns is ∷ fs) u (v.truth b ∷ W) (less u g.Loop 0 m) d Z o)
      by ps c _ _ M (is_loop {name = name} {annots = annots} {ts = ts} {A = A} form fine) rests depth same typed small holds =
          stands_of h.runs (p.turns A ts ∷ ps) c (t.bool ∷ A) (fr.rests_turns (block_of fine (loop_leads name annots M form fine typed) (small_one name annots ts small)) rests) depth
          (ap (λ same. after (only_if same (eval_task (turns ts) (at u c) (depth_of ps) (t.bool ∷ A) (v.truth b ∷ W) (less u g.Loop 0 m))) (resume ps (at u c))) (same_kinds_refl (t.bool ∷ A))
          ∙ when_paid u g.Loop 0 m _ o _ (resume ps (at u c)) (form_is _ _ _ _ _ _ _ _ m form) pays same) (over_turns A ts holds)

  pub loop_broke : {is : Codes} (b : Bool) {W : List Val} → Lacks u g.Loop 0 m → MeetsAt (made.loop is) fs u (v.truth b ∷ W) m d Z o → o ≡ failed f.out_of_gas
  loop_broke {is = is} b {W = W} lacks h = meets_by h by
    where
      by : Case (made.loop is) fs u (v.truth b ∷ W) m d Z o (o ≡ failed f.out_of_gas)
      by ps c _ _ M (is_loop {ts = ts} {A = A} form fine) rests depth same = when_broke u g.Loop 0 m _ o _ (resume ps (at u c)) (form_is _ _ _ _ _ _ _ _ m form) lacks same

  -- ---- LOOP_LEFT

  pub loop_left_top : {is : Codes} {V : List Val} → MeetsAt (made.loop_left is) fs u V m d Z o → HasUnion V
  loop_left_top {is = is} {V = V} h = meets_by h by
    where
      by : Case (made.loop_left is) fs u V m d Z o (HasUnion V)
      by ps c _ _ M (is_loop_left {ts = ts} {a = a} {r = r} {A = A} form fine) rests depth same =
          has_union (resume ps (at u c)) o h.runs.sound a r A V _ _ (ap (λ p. after p (resume ps (at u c))) (sym (form_is _ _ _ _ _ _ _ V m form)) ∙ same)

  pub loop_left_acts : {is : Codes} (x : Val) {W : List Val} → Pays u g.LoopLeft 0 m → MeetsAt (made.loop_left is) fs u (v.left x ∷ W) m d Z o → StandsAt (fr.left_turns is ∷ fs) u (v.left x ∷ W) (less u g.LoopLeft 0 m) d Z o
  loop_left_acts {is = is} x {W = W} pays h = meets_fine h by
    where
      by : FineCase (made.loop_left is) fs u (v.left x ∷ W) m d Z o (StandsAt (fr.left_turns is ∷ fs) u (v.left x ∷ W) (less u g.LoopLeft 0 m) d Z o)
      by ps c _ _ M (is_loop_left {name = name} {annots = annots} {ts = ts} {a = a} {r = r} {A = A} form fine) rests depth same typed small holds =
          stands_of h.runs (p.left_turns a r A ts ∷ ps) c (k.or a r ∷ A) (fr.rests_left_turns (block_of fine (loop_left_leads name annots M form fine typed) (small_one name annots ts small)) rests) depth
          (ap (λ same. after (only_if same (eval_task (left_turns ts) (at u c) (depth_of ps) (k.or a r ∷ A) (v.left x ∷ W) (less u g.LoopLeft 0 m))) (resume ps (at u c))) (same_kinds_refl (k.or a r ∷ A))
          ∙ when_paid u g.LoopLeft 0 m _ o _ (resume ps (at u c)) (form_is _ _ _ _ _ _ _ _ m form) pays same) (over_left a r A ts holds)

  pub loop_left_broke : {is : Codes} (x : Val) {W : List Val} → Lacks u g.LoopLeft 0 m → MeetsAt (made.loop_left is) fs u (v.left x ∷ W) m d Z o → o ≡ failed f.out_of_gas
  loop_left_broke {is = is} x {W = W} lacks h = meets_by h by
    where
      by : Case (made.loop_left is) fs u (v.left x ∷ W) m d Z o (o ≡ failed f.out_of_gas)
      by ps c _ _ M (is_loop_left {ts = ts} {a = a} {r = r} {A = A} form fine) rests depth same = when_broke u g.LoopLeft 0 m _ o _ (resume ps (at u c)) (form_is _ _ _ _ _ _ _ _ m form) lacks same

  pub loop_right_acts : {is : Codes} (x : Val) {W : List Val} → Pays u g.LoopLeft 0 m → MeetsAt (made.loop_left is) fs u (v.right x ∷ W) m d Z o → StandsAt (fr.left_turns is ∷ fs) u (v.right x ∷ W) (less u g.LoopLeft 0 m) d Z o
  loop_right_acts {is = is} x {W = W} pays h = meets_fine h by
    where
      by : FineCase (made.loop_left is) fs u (v.right x ∷ W) m d Z o (StandsAt (fr.left_turns is ∷ fs) u (v.right x ∷ W) (less u g.LoopLeft 0 m) d Z o)
      by ps c _ _ M (is_loop_left {name = name} {annots = annots} {ts = ts} {a = a} {r = r} {A = A} form fine) rests depth same typed small holds =
          stands_of h.runs (p.left_turns a r A ts ∷ ps) c (k.or a r ∷ A) (fr.rests_left_turns (block_of fine (loop_left_leads name annots M form fine typed) (small_one name annots ts small)) rests) depth
          (ap (λ same. after (only_if same (eval_task (left_turns ts) (at u c) (depth_of ps) (k.or a r ∷ A) (v.right x ∷ W) (less u g.LoopLeft 0 m))) (resume ps (at u c))) (same_kinds_refl (k.or a r ∷ A))
          ∙ when_paid u g.LoopLeft 0 m _ o _ (resume ps (at u c)) (form_is _ _ _ _ _ _ _ _ m form) pays same) (over_left a r A ts holds)

  pub loop_right_broke : {is : Codes} (x : Val) {W : List Val} → Lacks u g.LoopLeft 0 m → MeetsAt (made.loop_left is) fs u (v.right x ∷ W) m d Z o → o ≡ failed f.out_of_gas
  loop_right_broke {is = is} x {W = W} lacks h = meets_by h by
    where
      by : Case (made.loop_left is) fs u (v.right x ∷ W) m d Z o (o ≡ failed f.out_of_gas)
      by ps c _ _ M (is_loop_left {ts = ts} {a = a} {r = r} {A = A} form fine) rests depth same = when_broke u g.LoopLeft 0 m _ o _ (resume ps (at u c)) (form_is _ _ _ _ _ _ _ _ m form) lacks same

-- ---- the further turns of LOOP

module _ (u : Around) (m : Tally) (o : Outcome) where
  turns_same : (runs : Runs u o) (ps : List Pending) (c : Context) (ts : Trees) (B : List Kind) (V : List Val) → resume (p.turns B ts ∷ ps) (at u c) (t.bool ∷ B) V m ≡ o →
      after (turns_run (eval_task (turns ts)) (block_run ts) (at u c) (depth_of ps) (t.bool ∷ B) V m) (resume ps (at u c)) ≡ o
  turns_same runs ps c ts B V same =
      ap (λ x. after x (resume ps (at u c))) (sym (eval_is (turns ts) (at u c) runs.charged (depth_of ps) (t.bool ∷ B) V m))
      ∙ ap (λ b. after (only_if b (eval_task (turns ts) (at u c) (depth_of ps) (t.bool ∷ B) V m)) (resume ps (at u c))) (sym (same_kinds_refl (t.bool ∷ B)))
      ∙ same

module _ {fs : List Frame} {u : Around} {m : Tally} {d : ℕ} {Z : List Kind} {o : Outcome} where
  pub turns_top : {is : Codes} {V : List Val} → StandsAt (fr.turns is ∷ fs) u V m d Z o → HasTruth V
  turns_top {is = is} {V = V} h = by h.pending h.context h.types h.rests h.same
    where
      by : (ps : List Pending) (c : Context) (A : List Kind) → Rests (fr.turns is ∷ fs) ps u c A Z → resume ps (at u c) A V m ≡ o → HasTruth V
      by _ c _ (fr.rests_turns {ps = ps} {ts = ts} {B = B} fine rests) same = has_truth (resume ps (at u c)) o h.runs.sound B V _ (turns_same u _ o h.runs ps c ts B V same)

  pub turns_end : {is : Codes} {W : List Val} → StandsAt (fr.turns is ∷ fs) u (v.truth false ∷ W) m d Z o → StandsAt fs u W m d Z o
  turns_end {is = is} {W = W} h = by h.pending h.context h.types h.rests h.depth h.same h.holds
    where
      by : (ps : List Pending) (c : Context) (A : List Kind) → Rests (fr.turns is ∷ fs) ps u c A Z → d ≡ depth_of ps → resume ps (at u c) A (v.truth false ∷ W) m ≡ o → IsFine u c ps A (v.truth false ∷ W) m.issued m.changes → StandsAt fs u W m d Z o
      by _ c _ (fr.rests_turns {ps = ps} {ts = ts} {B = B} fine rests) depth same holds = stands_of h.runs ps c B rests depth (turns_same u _ o h.runs ps c ts B (v.truth false ∷ W) same) (off_top (off_turns B ts holds))

  pub turns_broke : {is : Codes} {W : List Val} → Lacks u g.Turn 0 m → StandsAt (fr.turns is ∷ fs) u (v.truth true ∷ W) m d Z o → o ≡ failed f.out_of_gas
  turns_broke {is = is} {W = W} lacks h = by h.pending h.context h.types h.rests h.same
    where
      by : (ps : List Pending) (c : Context) (A : List Kind) → Rests (fr.turns is ∷ fs) ps u c A Z → resume ps (at u c) A (v.truth true ∷ W) m ≡ o → o ≡ failed f.out_of_gas
      by _ c _ (fr.rests_turns {ps = ps} {ts = ts} {B = B} fine rests) same =
          when_broke u g.Turn 0 m _ o _ (resume ps (at u c)) refl lacks (turns_same u _ o h.runs ps c ts B (v.truth true ∷ W) same)

  pub turn_opens : {is : Codes} {W : List Val} → Pays u g.Turn 0 m → StandsAt (fr.turns is ∷ fs) u (v.truth true ∷ W) m d Z o → OpensAt is (fr.turns is ∷ fs) u W (less u g.Turn 0 m) d Z o
  turn_opens {is = is} {W = W} pays h = by h.pending h.context h.types h.rests h.depth h.same h.holds
    where
      by : (ps : List Pending) (c : Context) (A : List Kind) → Rests (fr.turns is ∷ fs) ps u c A Z → d ≡ depth_of ps → resume ps (at u c) A (v.truth true ∷ W) m ≡ o → IsFine u c ps A (v.truth true ∷ W) m.issued m.changes → OpensAt is (fr.turns is ∷ fs) u W (less u g.Turn 0 m) d Z o
      by _ c _ (fr.rests_turns {ps = ps} {ts = ts} {B = B} fine rests) depth same holds =
          opens_of h.runs (p.turns B ts ∷ ps) c ts B (t.bool ∷ B) fine (fr.rests_turns fine rests) depth
          (sym (after_after (block_run ts (at u c) (depth_of ps) B W (less u g.Turn 0 m)) (λ C X m. only_if (same_kinds C (t.bool ∷ B)) (eval_task (turns ts) (at u c) (depth_of ps) C X m)) (resume ps (at u c)))
          ∙ when_paid u g.Turn 0 m _ o _ (resume ps (at u c)) refl pays (turns_same u _ o h.runs ps c ts B (v.truth true ∷ W) same)) (off_top holds)

-- ---- those of LOOP_LEFT

module _ (u : Around) (m : Tally) (o : Outcome) where
  left_same : (runs : Runs u o) (ps : List Pending) (c : Context) (ts : Trees) (a b : Kind) (B : List Kind) (V : List Val) → resume (p.left_turns a b B ts ∷ ps) (at u c) (k.or a b ∷ B) V m ≡ o →
      after (left_turns_run (eval_task (left_turns ts)) (block_run ts) (at u c) (depth_of ps) (k.or a b ∷ B) V m) (resume ps (at u c)) ≡ o
  left_same runs ps c ts a b B V same =
      ap (λ x. after x (resume ps (at u c))) (sym (eval_is (left_turns ts) (at u c) runs.charged (depth_of ps) (k.or a b ∷ B) V m))
      ∙ ap (λ x. after (only_if x (eval_task (left_turns ts) (at u c) (depth_of ps) (k.or a b ∷ B) V m)) (resume ps (at u c))) (sym (same_kinds_refl (k.or a b ∷ B)))
      ∙ same

module _ {fs : List Frame} {u : Around} {m : Tally} {d : ℕ} {Z : List Kind} {o : Outcome} where
  pub left_turns_top : {is : Codes} {V : List Val} → StandsAt (fr.left_turns is ∷ fs) u V m d Z o → HasUnion V
  left_turns_top {is = is} {V = V} h = by h.pending h.context h.types h.rests h.same
    where
      by : (ps : List Pending) (c : Context) (A : List Kind) → Rests (fr.left_turns is ∷ fs) ps u c A Z → resume ps (at u c) A V m ≡ o → HasUnion V
      by _ c _ (fr.rests_left_turns {ps = ps} {ts = ts} {a = a} {b = b} {B = B} fine rests) same = has_union (resume ps (at u c)) o h.runs.sound a b B V _ _ (left_same u _ o h.runs ps c ts a b B V same)

  pub left_turns_end : {is : Codes} (x : Val) {W : List Val} → StandsAt (fr.left_turns is ∷ fs) u (v.right x ∷ W) m d Z o → StandsAt fs u (x ∷ W) m d Z o
  left_turns_end {is = is} x {W = W} h = by h.pending h.context h.types h.rests h.depth h.same h.holds
    where
      by : (ps : List Pending) (c : Context) (A : List Kind) → Rests (fr.left_turns is ∷ fs) ps u c A Z → d ≡ depth_of ps → resume ps (at u c) A (v.right x ∷ W) m ≡ o → IsFine u c ps A (v.right x ∷ W) m.issued m.changes → StandsAt fs u (x ∷ W) m d Z o
      by _ c _ (fr.rests_left_turns {ps = ps} {ts = ts} {a = a} {b = b} {B = B} fine rests) depth same holds = stands_of h.runs ps c (b ∷ B) rests depth (left_same u _ o h.runs ps c ts a b B (v.right x ∷ W) same) (new_top b x (type_right a b holds.types.0) holds.fits.0 (λ id. omega (arith, ints)) (off_left a b B ts holds))

  pub left_turns_broke : {is : Codes} (x : Val) {W : List Val} → Lacks u g.Turn 0 m → StandsAt (fr.left_turns is ∷ fs) u (v.left x ∷ W) m d Z o → o ≡ failed f.out_of_gas
  left_turns_broke {is = is} x {W = W} lacks h = by h.pending h.context h.types h.rests h.same
    where
      by : (ps : List Pending) (c : Context) (A : List Kind) → Rests (fr.left_turns is ∷ fs) ps u c A Z → resume ps (at u c) A (v.left x ∷ W) m ≡ o → o ≡ failed f.out_of_gas
      by _ c _ (fr.rests_left_turns {ps = ps} {ts = ts} {a = a} {b = b} {B = B} fine rests) same =
          when_broke u g.Turn 0 m _ o _ (resume ps (at u c)) refl lacks (left_same u _ o h.runs ps c ts a b B (v.left x ∷ W) same)

  pub left_turn_opens : {is : Codes} (x : Val) {W : List Val} → Pays u g.Turn 0 m → StandsAt (fr.left_turns is ∷ fs) u (v.left x ∷ W) m d Z o → OpensAt is (fr.left_turns is ∷ fs) u (x ∷ W) (less u g.Turn 0 m) d Z o
  left_turn_opens {is = is} x {W = W} pays h = by h.pending h.context h.types h.rests h.depth h.same h.holds
    where
      by : (ps : List Pending) (c : Context) (A : List Kind) → Rests (fr.left_turns is ∷ fs) ps u c A Z → d ≡ depth_of ps → resume ps (at u c) A (v.left x ∷ W) m ≡ o → IsFine u c ps A (v.left x ∷ W) m.issued m.changes → OpensAt is (fr.left_turns is ∷ fs) u (x ∷ W) (less u g.Turn 0 m) d Z o
      by _ c _ (fr.rests_left_turns {ps = ps} {ts = ts} {a = a} {b = b} {B = B} fine rests) depth same holds =
          opens_of h.runs (p.left_turns a b B ts ∷ ps) c ts (a ∷ B) (k.or a b ∷ B) fine (fr.rests_left_turns fine rests) depth
          (sym (after_after (block_run ts (at u c) (depth_of ps) (a ∷ B) (x ∷ W) (less u g.Turn 0 m)) (λ C X m. only_if (same_kinds C (k.or a b ∷ B)) (eval_task (left_turns ts) (at u c) (depth_of ps) C X m)) (resume ps (at u c)))
          ∙ when_paid u g.Turn 0 m _ o _ (resume ps (at u c)) refl pays (left_same u _ o h.runs ps c ts a b B (v.left x ∷ W) same)) (new_top a x (type_left a b holds.types.0) holds.fits.0 (λ id. omega (arith, ints)) holds)
