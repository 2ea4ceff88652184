-- Blocks that open and end, what is under DIP, calls that end, and where a run begins and ends.
use Rattle.std.proofs.Common.{◌≡◌, ◌<◌, ◌≤◌, ◌+◌, ℕ, suc, Bool, true, false, List, [], ◌∷◌, ◌++◌, refl, sym, ap, ◌∙◌, subst, arith}
use Rattle.std.specs.Prelude.{nat_lt}
use Rattle.rules_text.specs.nodes.Limits.{block_limit}
use Rattle.rules_text.specs.nodes.Tree.{seq, Trees, none}
use Rattle.rules_data.specs.types.Kind.{Kind}
use Rattle.rules_code.specs.instructions.Context.{Context}
use Rattle.rules_data.specs.values.Val.{Val}
use Rattle.rules_data.specs.values.Val as v
use Rattle.rules_code.specs.steps.Failure as f
use Rattle.rules_code.specs.evaluation.Surroundings.{Surroundings}
use Rattle.rules_code.specs.evaluation.Operations.{Tally}
use Rattle.rules_code.specs.evaluation.Outcome.{Outcome, stack, failed, after, only_if}
use Rattle.rules_code.specs.steps.Environment.{Environment}
use Rattle.rules_code.specs.steps.Changes.{Change}
use Rattle.rules_code.specs.evaluation.Operations.{Issued}
use Rattle.rules_code.specs.evaluation.Shapes.{on_top}
use Rattle.mich_frames.specs.Shapes.{HasTop}
use Rattle.mich_frames.proofs.Shapes.{has_top}
use Rattle.rules_code.specs.evaluation.Evaluation.{tree_run, eval_task}
use Rattle.laws_code.specs.evaluation.Laws.{IsCharged}
use Rattle.mich_instr.specs.Code.{Code, Codes}
use Rattle.mich_instr.specs.Code as made
use Rattle.mich_frames.specs.Around.{Around, at, in_environment, with_burnt, returned}
use Rattle.mich_frames.specs.Pending.{Pending, depth_of, block_run, resume}
use Rattle.mich_frames.specs.Pending as p
use Rattle.mich_frames.specs.Fine.{IsFine}
use Rattle.mich_frames.specs.Frames.{Frame, IsBlock, Rests}
use Rattle.mich_frames.specs.Frames as fr
use Rattle.mich_frames.specs.Stands.{StandsAt, MeetsAt, OpensAt}
use Rattle.mich_frames.proofs.Paying.{after_after, after_stack}
use Rattle.mich_frames.proofs.Made.{stands_of, opens_of, block_of}
use Rattle.mich_frames.proofs.Fine.{over_rest, behind_rest, off_rest, back, called_back, viewed_back, sound_here}
use Rattle.mich_instr.proofs.bodies.ForCallers.{next_leads, leads_seq}
use Rattle.laws_tickets.proofs.held.ForCallers.{node_sound}
use Rattle.std.proofs.lemmas.Bool.{lt-ltb, ltb-true}
use Rattle.rules_code.specs.evaluation.Outcome.{opened}
use Rattle.rules_code.specs.evaluation.Evaluation.{node, trees_run, eval}
use Rattle.std.specs.Prelude.{◌^◌, ℤ}
use Rattle.rules_data.specs.values.Tickets.{Identity}
use Rattle.rules_text.specs.nodes.Tree.{size}
use Rattle.rules_code.specs.typing.Nodes.{trees_type}
use Rattle.rules_code.specs.typing.Fits.{Leads}
use Rattle.laws_code.proofs.evaluation_lemmas.ForCallers.{eval_is}
use Rattle.laws_data.proofs.types_lemmas.ForCallers.{same_kinds_refl}
use Rattle.mich_instr.specs.Typed.{AreCode, no_code, more_code}

-- ---- blocks

not_below : (d : ℕ) → block_limit ≤ d → nat_lt d block_limit ≡ false
not_below d h = by (nat_lt d block_limit) refl
  where
    by : (b : Bool) → nat_lt d block_limit ≡ b → nat_lt d block_limit ≡ false
    by false e = e
    by true e = let n = ltb-true d block_limit e in absurd (omega (arith, h, n))

module _ {fs : List Frame} {u : Around} {V : List Val} {m : Tally} {d : ℕ} {Z : List Kind} {o : Outcome} where
  pub enters : {is : Codes} → d < block_limit → OpensAt is fs u V m d Z o → StandsAt (fr.rest is ∷ fs) u V m (d + 1) Z o
  enters {is = is} lt h =
      let below : nat_lt (depth_of h.pending) block_limit ≡ true = lt-ltb (depth_of h.pending) block_limit (let e = h.depth in omega (arith, lt, e)) in
      stands_of h.runs (p.rest h.nodes ∷ h.pending) h.context h.types (fr.rests_rest h.fine h.rests) (let e = h.depth in omega (arith, e))
      (sym (ap (λ b. after (opened b (trees_run eval_task h.nodes) (at u h.context) (depth_of h.pending) h.types V m) (resume h.pending (at u h.context))) below) ∙ h.same) (over_rest h.nodes h.holds)

  pub too_deep : {is : Codes} → block_limit ≤ d → OpensAt is fs u V m d Z o → o ≡ failed f.depth_limit
  too_deep {is = is} le h =
      let above : nat_lt (depth_of h.pending) block_limit ≡ false = not_below (depth_of h.pending) (let e = h.depth in omega (arith, le, e)) in
      sym h.same ∙ ap (λ b. after (opened b (trees_run eval_task h.nodes) (at u h.context) (depth_of h.pending) h.types V m) (resume h.pending (at u h.context))) above

  -- the next instruction of a block, and the rest of it
  pub meets_next : {i : Code} {is : Codes} → StandsAt (fr.rest (made.more i is) ∷ fs) u V m d Z o → MeetsAt i (fr.rest is ∷ fs) u V m d Z o
  meets_next {i = i} {is = is} h = by h.pending h.context h.types h.rests h.depth h.same h.holds
    where
      by : (ps : List Pending) (c : Context) (A : List Kind) → Rests (fr.rest (made.more i is) ∷ fs) ps u c A Z → d ≡ depth_of ps → resume ps (at u c) A V m ≡ o → IsFine u c ps A V m.issued m.changes → MeetsAt i (fr.rest is ∷ fs) u V m d Z o
      by _ c A (fr.rests_rest {ps = ps} fine rests) depth same holds = first fine.code fine.typed fine.small rests depth same holds
        where
          first : {ts : Trees} {B : List Kind} → AreCode c ts (made.more i is) A B → Leads (trees_type ts c A) B → size (seq ts) < 2 ^ 32 → Rests fs ps u c B Z → d ≡ suc (depth_of ps) →
              after (trees_run eval_task ts (at u c) (suc (depth_of ps)) A V m) (resume ps (at u c)) ≡ o → IsFine u c (p.rest ts ∷ ps) A V m.issued m.changes → MeetsAt i (fr.rest is ∷ fs) u V m d Z o
          first (more_code {t = t} {ts = ts} {M = M} now later) typed small rests depth same holds =
              let leads = next_leads now later typed in
              record {
                runs = h.runs;
                pending = p.rest ts ∷ ps;
                context = c;
                node = t;
                types = A;
                next = M;
                fine = now;
                typed = leads.0;
                small = omega (arith, small);
                rests = fr.rests_rest (block_of later leads.1 (omega (arith, small))) rests;
                depth = depth;
                same = sym (after_after (tree_run eval_task t (at u c) (suc (depth_of ps)) A V m) (trees_run eval_task ts (at u c) (suc (depth_of ps))) (resume ps (at u c))) ∙ same;
                holds = behind_rest _ ts holds;
              }

  pub rest_depth : {is : Codes} → StandsAt (fr.rest is ∷ fs) u V m d Z o → 0 < d
  rest_depth {is = is} h = by h.pending h.context h.types h.rests h.depth
    where
      by : (ps : List Pending) (c : Context) (A : List Kind) → Rests (fr.rest is ∷ fs) ps u c A Z → d ≡ depth_of ps → 0 < d
      by _ c A (fr.rests_rest fine rests) depth = omega (arith, depth)

  -- the end of a block
  pub rest_ends : (d' : ℕ) → d ≡ d' + 1 → StandsAt (fr.rest made.none ∷ fs) u V m d Z o → StandsAt fs u V m d' Z o
  rest_ends d' n h = by h.pending h.context h.types h.rests h.depth h.same h.holds
    where
      by : (ps : List Pending) (c : Context) (A : List Kind) → Rests (fr.rest made.none ∷ fs) ps u c A Z → d ≡ depth_of ps → resume ps (at u c) A V m ≡ o → IsFine u c ps A V m.issued m.changes → StandsAt fs u V m d' Z o
      by _ c A (fr.rests_rest {ps = ps} fine rests) depth same holds = at_end fine.code rests depth same holds
        where
          at_end : {ts : Trees} {B : List Kind} → AreCode c ts made.none A B → Rests fs ps u c B Z → d ≡ suc (depth_of ps) →
              after (trees_run eval_task ts (at u c) (suc (depth_of ps)) A V m) (resume ps (at u c)) ≡ o → IsFine u c (p.rest ts ∷ ps) A V m.issued m.changes → StandsAt fs u V m d' Z o
          at_end no_code rests depth same holds = stands_of h.runs ps c A rests (omega (arith, n, depth)) same (off_rest none holds)

  -- ---- DIP, calls and views

  pub under_ends : {W : List Val} → StandsAt (fr.under W ∷ fs) u V m d Z o → StandsAt fs u (W ++ V) m d Z o
  under_ends {W = W} h = by h.pending h.context h.types h.rests h.depth h.same h.holds
    where
      by : (ps : List Pending) (c : Context) (A : List Kind) → Rests (fr.under W ∷ fs) ps u c A Z → d ≡ depth_of ps → resume ps (at u c) A V m ≡ o → IsFine u c ps A V m.issued m.changes → StandsAt fs u (W ++ V) m d Z o
      by _ c B (fr.rests_under {ps = ps} {A = A} rests) depth same holds = stands_of h.runs ps c (A ++ B) rests depth same (back holds)

  pub call_ends : {W : List Val} → StandsAt (fr.call W ∷ fs) u V m d Z o → StandsAt fs u (V ++ W) m d Z o
  call_ends {W = W} h = by h.pending h.context h.types h.rests h.depth h.same h.holds
    where
      by : (ps : List Pending) (c : Context) (A : List Kind) → Rests (fr.call W ∷ fs) ps u c A Z → d ≡ depth_of ps → resume ps (at u c) A V m ≡ o → IsFine u c ps A V m.issued m.changes → StandsAt fs u (V ++ W) m d Z o
      by _ c _ (fr.rests_call {ps = ps} {c' = c'} {r = r} {B = B} rests) depth same holds =
          stands_of h.runs ps c' (r ∷ B) rests depth
          (ap (λ q. after (only_if q (stack (r ∷ B) (V ++ W) m)) (resume ps (at u c'))) (sym (same_kinds_refl (r ∷ []))) ∙ same) (called_back holds)

view_same : (u : Around) (burnt : Identity → ℤ) (m : Tally) (o : Outcome) (c : Context) (ps : List Pending) (issued : List Issued) (changes : List Change) (b : Kind) (B : List Kind) (V W : List Val) (e : Surroundings) →
    resume (p.viewing (at u c) burnt issued changes b B W ∷ ps) e (b ∷ []) V m ≡ o →
    after (on_top (b ∷ []) V (λ _ _ y _. stack B (v.some y ∷ W) (returned issued changes m))) (resume ps (at u c)) ≡ o
view_same u burnt m o c ps issued changes b B V W e same =
    ap (λ q. after (only_if q (on_top (b ∷ []) V (λ _ _ y _. stack B (v.some y ∷ W) (returned issued changes m)))) (resume ps (at u c))) (sym (same_kinds_refl (b ∷ []))) ∙ same

module _ {fs : List Frame} {u : Around} {m : Tally} {d : ℕ} {Z : List Kind} {o : Outcome} where
  pub view_top : {e : Environment} {burnt : Identity → ℤ} {issued : List Issued} {changes : List Change} {W V : List Val} → StandsAt (fr.viewing e burnt issued changes W ∷ fs) u V m d Z o → HasTop V
  view_top {e = e} {burnt = burnt} {issued = issued} {changes = changes} {W = W} {V = V} h = by e burnt h.pending h.context h.types h.rests h.same
    where
      by : (e : Environment) (burnt : Identity → ℤ) (ps : List Pending) (c : Context) (A : List Kind) → Rests (fr.viewing e burnt issued changes W ∷ fs) ps u c A Z → resume ps (at u c) A V m ≡ o → HasTop V
      by _ _ _ c _ (fr.rests_viewing {ps = ps} {u' = u'} {c' = c'} {b = b} {B = B} back rests) same =
          has_top (resume ps (at u' c')) o h.runs.sound (b ∷ []) V (λ _ _ y _. stack B (v.some y ∷ W) (returned issued changes m)) (view_same u' u'.burnt m o c' ps issued changes b B V W (at u c) same)

  pub view_ends : {e : Environment} {burnt : Identity → ℤ} {issued : List Issued} {changes : List Change} {W : List Val} (y : Val) {X : List Val} → StandsAt (fr.viewing e burnt issued changes W ∷ fs) u (y ∷ X) m d Z o →
      StandsAt fs (with_burnt (in_environment u e) burnt) (v.some y ∷ W) (returned issued changes m) d Z o
  view_ends {e = e} {burnt = burnt} {issued = issued} {changes = changes} {W = W} y {X = X} h = by e burnt h.pending h.context h.types h.rests h.depth h.same h.holds
    where
      by : (e : Environment) (burnt : Identity → ℤ) (ps : List Pending) (c : Context) (A : List Kind) → Rests (fr.viewing e burnt issued changes W ∷ fs) ps u c A Z → d ≡ depth_of ps → resume ps (at u c) A (y ∷ X) m ≡ o → IsFine u c ps A (y ∷ X) m.issued m.changes →
          StandsAt fs (with_burnt (in_environment u e) burnt) (v.some y ∷ W) (returned issued changes m) d Z o
      by _ _ _ c _ (fr.rests_viewing {ps = ps} {u' = u'} {c' = c'} {b = b} {B = B} back rests) depth same holds =
          subst (λ w. StandsAt fs w (v.some y ∷ W) (returned issued changes m) d Z o) back
          (stands_of record { charged = subst (λ w. IsCharged w.prices) (sym back) h.runs.charged; sound = h.runs.sound } ps c' B rests depth
          (view_same u' u'.burnt m o c' ps issued changes b B (y ∷ X) W (at u c) same) (viewed_back (ap (λ (w : Around). w.contract_at) back) holds))

-- ---- the whole

-- nothing is left
pub all_done : {u : Around} {V : List Val} {m : Tally} {d : ℕ} {Z : List Kind} {o : Outcome} → StandsAt [] u V m d Z o → o ≡ stack Z V m
all_done {u = u} {V = V} {m = m} {Z = Z} {o = o} h = by h.pending h.context h.types h.rests h.same
  where
    by : (ps : List Pending) (c : Context) (A : List Kind) → Rests [] ps u c A Z → resume ps (at u c) A V m ≡ o → o ≡ stack Z V m
    by _ c _ fr.rests_end same = sym same

-- where a run begins
pub starts : (u : Around) (c : Context) (ts : Trees) (is : Codes) (A Z : List Kind) (V : List Val) (m : Tally) → IsCharged u.prices → IsBlock c ts is A Z →
    IsFine u c [] A V m.issued m.changes → OpensAt is [] u V m 0 Z (eval (seq ts) (at u c) 0 A V m)
starts u c ts is A Z V m charged fine holds =
    opens_of record { charged = charged; sound = node_sound (at u c) 0 (seq ts) A Z V m fine.small (leads_seq ts c A Z fine.typed) holds.good (sound_here holds) } [] c ts A Z fine fr.rests_end refl
    (after_stack (block_run ts (at u c) 0 A V m) ∙ sym (eval_is (node (seq ts)) (at u c) charged 0 A V m)) holds
