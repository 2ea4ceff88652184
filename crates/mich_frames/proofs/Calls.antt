-- EXEC and APPLY, FAILWITH and NEVER.
use Rattle.std.proofs.Common.{◌≡◌, ◌<◌, ◌≤◌, ℕ, Bool, true, false, List, [], ◌∷◌, ◌++◌, Some, None, refl, sym, ap, ◌∙◌, arith}
use Rattle.std.specs.Prelude.{nat_le}
use Rattle.rules_text.specs.nodes.Limits.{applied_size, applied_depth}
use Rattle.rules_text.specs.nodes.Tree.{Tree, prim, seq, Trees, none}
use Rattle.rules_data.specs.declared.gas.Kind.TheVariants as g
use Rattle.rules_data.specs.types.Kind.{Kind}
use Rattle.rules_data.specs.types.Kind as k
use Rattle.rules_code.specs.instructions.Context.{Context}
use Rattle.rules_code.specs.instructions.Context as place
use Rattle.rules_data.specs.values.Val.{Val}
use Rattle.rules_data.specs.values.Val as v
use Rattle.rules_code.specs.steps.Failure as f
use Rattle.rules_code.specs.evaluation.Operations.{Tally}
use Rattle.rules_code.specs.evaluation.Outcome.{Outcome, stack, failed, Go, after, only_if}
use Rattle.std.specs.Prelude.{is_none, if◌then◌else◌}
use Rattle.rules_code.specs.typing.Typing.{Typing, goes, fails, bad}
use Rattle.rules_code.specs.typing.Bodies.{body_fault}
use Rattle.rules_code.specs.typing.Literals.{lambda_fault}
use Rattle.rules_code.specs.typing.Fits.{Leads}
use Rattle.rules_code.specs.evaluation.Evaluation.{eval_task}
use Rattle.mich_instr.specs.Code.{Codes}
use Rattle.mich_instr.specs.Code as made
use Rattle.mich_frames.specs.Around.{Around, at, less, Pays, Lacks}
use Rattle.mich_frames.specs.Pending.{Pending, depth_of, block_run, resume}
use Rattle.mich_frames.specs.Pending as p
use Rattle.mich_frames.specs.Frames.{Frame, Rests}
use Rattle.mich_frames.specs.Frames as fr
use Rattle.mich_frames.specs.Stands.{Runs, StandsAt, MeetsAt, OpensAt}
use Rattle.mich_frames.proofs.Paying.{after_after, pays_is, when_paid, when_broke}
use Rattle.mich_frames.proofs.Made.{stands_of, opens_of, form_is, Case, meets_by, block_of, FineCase, meets_fine, Ends, ends_of}
use Rattle.mich_frames.proofs.Fine.{in_call, lambda_below}
use Rattle.mich_instr.proofs.bodies.ForCallers.{seq_leads}
use Rattle.std.proofs.lemmas.Bool.{le-leb, leb-true}
use Rattle.rules_text.specs.nodes.Tree.{size}
use Rattle.rules_text.specs.nodes.Tree.{depth as levels}
use Rattle.rules_data.specs.types.Attributes.{pushable}
use Rattle.rules_code.specs.instructions.Same.{same_kind, same_kinds}
use Rattle.rules_code.specs.instructions.Control.{call_kinds}
use Rattle.rules_data.specs.values.Weight.{weight}
use Rattle.rules_code.specs.evaluation.Outcome.{charge}
use Rattle.rules_code.specs.evaluation.Branches.{paid}
use Rattle.rules_code.specs.evaluation.Calls.{call_values, applied, shallow_enough, small_enough, within_bounds}
use Rattle.rules_code.specs.evaluation.Evaluation.{node}
use Rattle.laws_code.proofs.evaluation_lemmas.ForCallers.{eval_is}
use Rattle.laws_data.proofs.types_lemmas.ForCallers.{same_kind_refl, same_kinds_true}
use Rattle.mich_instr.specs.Typed.{AreCode, is_exec, is_apply, is_failwith, is_never}
use Rattle.mich_frames.specs.Shapes.{HasTop, HasCall}
use Rattle.mich_frames.proofs.Shapes.{has_top, has_call, has_capture, holds}

-- ---- EXEC

module _ (u : Around) (m : Tally) (o : Outcome) (c : Context) (ps : List Pending) (a r : Kind) (A : List Kind) (x : Val) (ts : Trees) (recursive : Bool) (W : List Val) where
  -- the result, above the stack below the call
  abbrev on_result : Go
  on_result C X m = only_if (same_kinds C (r ∷ [])) (stack (r ∷ A) (X ++ W) m)

  abbrev called : Tally → Outcome
  called m = after (eval_task (node (seq ts)) (at u place.lambda) (depth_of ps) (call_kinds a r recursive) (call_values x ts recursive) m) on_result

  abbrev is_typed : Bool
  is_typed = is_none (lambda_fault a r recursive (seq ts))

  -- the body is one of the lambda's type
  exec_is : Runs u o → after (only_if (same_kind a a) (only_if is_typed (paid (at u c) g.Exec m called))) (resume ps (at u c)) ≡ o →
      (is_typed ≡ true) × (after (paid (at u c) g.Exec m called) (resume ps (at u c)) ≡ o)
  exec_is runs same =
      let one : after (only_if is_typed (paid (at u c) g.Exec m called)) (resume ps (at u c)) ≡ o =
      ap (λ q. after (only_if q (only_if is_typed (paid (at u c) g.Exec m called))) (resume ps (at u c))) (sym (same_kind_refl a)) ∙ same in
      let typed = holds (resume ps (at u c)) o runs.sound is_typed (paid (at u c) g.Exec m called) one in
      (typed, sym (ap (λ q. after (only_if q (paid (at u c) g.Exec m called)) (resume ps (at u c))) typed) ∙ one)

no_fault : (x : Typing) (r : Kind) → is_none (body_fault 0 x r) ≡ true → Leads x (r ∷ [])
no_fault (goes B) r h = by (same_kinds B (r ∷ [])) refl h
  where
    by : (b : Bool) → same_kinds B (r ∷ []) ≡ b → is_none {T = ℕ} (if b then None else Some 0) ≡ true → B ≡ r ∷ []
    by true e h = same_kinds_true B (r ∷ []) e
    by false e h = absurd cc
no_fault fails r h = tt
no_fault (bad l) r h = absurd cc

module _ {fs : List Frame} {u : Around} {m : Tally} {d : ℕ} {Z : List Kind} {o : Outcome} where
  pub exec_top : {a r : Kind} {V : List Val} → MeetsAt (made.exec a r) fs u V m d Z o → HasCall V
  exec_top {a = a} {r = r} {V = V} h = meets_by h by
    where
      by : Case (made.exec a r) fs u V m d Z o (HasCall V)
      by ps c _ _ _ (is_exec {A = A} form) rests depth same = has_call (resume ps (at u c)) o h.runs.sound a r A V _ (ap (λ p. after p (resume ps (at u c))) (sym (form_is _ _ _ _ _ _ _ V m form)) ∙ same)

  pub exec_opens : {a r : Kind} {is : Codes} (x : Val) (ts : Trees) (recursive : Bool) (W : List Val) → Pays u g.Exec 0 m → AreCode place.lambda ts is (call_kinds a r recursive) (r ∷ []) →
      MeetsAt (made.exec a r) fs u (x ∷ v.lambda (seq ts) recursive ∷ W) m d Z o → OpensAt is (fr.call W ∷ fs) u (call_values x ts recursive) (less u g.Exec 0 m) d Z o
  exec_opens {a = a} {r = r} {is = is} x ts recursive W pays fine h = meets_fine h by
    where
      by : FineCase (made.exec a r) fs u (x ∷ v.lambda (seq ts) recursive ∷ W) m d Z o (OpensAt is (fr.call W ∷ fs) u (call_values x ts recursive) (less u g.Exec 0 m) d Z o)
      by ps c _ _ _ (is_exec {A = A} form) rests depth same typed small holds =
          let K : List Kind = call_kinds a r recursive in
          let X : List Val = call_values x ts recursive in
          let n : Tally = less u g.Exec 0 m in
          opens_of h.runs (p.call (at u c) r A W ∷ ps) place.lambda ts K (r ∷ []) (block_of fine (seq_leads ts place.lambda K (r ∷ []) (lambda_below holds).1) (lambda_below holds).0) (fr.rests_call rests) depth
          (sym (after_after (block_run ts (at u place.lambda) (depth_of ps) K X n) (on_result u m o c ps a r A x ts recursive W) (resume ps (at u c)))
          ∙ ap (λ y. after (after y (on_result u m o c ps a r A x ts recursive W)) (resume ps (at u c))) (sym (eval_is (node (seq ts)) (at u place.lambda) h.runs.charged (depth_of ps) K X n))
          ∙ when_paid u g.Exec 0 m (called u m o c ps a r A x ts recursive W) o _ (resume ps (at u c)) refl pays (exec_is u m o c ps a r A x ts recursive W h.runs (ap (λ p. after p (resume ps (at u c))) (sym (form_is _ _ _ _ _ _ _ _ m form)) ∙ same)).1)
          (in_call holds)

  -- the body is one of the lambda's type
  pub exec_typed : {a r : Kind} (x : Val) (ts : Trees) (recursive : Bool) (W : List Val) → MeetsAt (made.exec a r) fs u (x ∷ v.lambda (seq ts) recursive ∷ W) m d Z o →
      is_none (lambda_fault a r recursive (seq ts)) ≡ true
  exec_typed {a = a} {r = r} x ts recursive W h = meets_by h by
    where
      by : Case (made.exec a r) fs u (x ∷ v.lambda (seq ts) recursive ∷ W) m d Z o (is_none (lambda_fault a r recursive (seq ts)) ≡ true)
      by ps c _ _ _ (is_exec {A = A} form) rests depth same =
          (exec_is u m o c ps a r A x ts recursive W h.runs (ap (λ p. after p (resume ps (at u c))) (sym (form_is _ _ _ _ _ _ _ _ m form)) ∙ same)).0

  pub exec_broke : {a r : Kind} (x : Val) (ts : Trees) (recursive : Bool) (W : List Val) → Lacks u g.Exec 0 m → MeetsAt (made.exec a r) fs u (x ∷ v.lambda (seq ts) recursive ∷ W) m d Z o → o ≡ failed f.out_of_gas
  exec_broke {a = a} {r = r} x ts recursive W lacks h = meets_by h by
    where
      by : Case (made.exec a r) fs u (x ∷ v.lambda (seq ts) recursive ∷ W) m d Z o (o ≡ failed f.out_of_gas)
      by ps c _ _ _ (is_exec {A = A} form) rests depth same =
          when_broke u g.Exec 0 m (called u m o c ps a r A x ts recursive W) o _ (resume ps (at u c)) refl lacks (exec_is u m o c ps a r A x ts recursive W h.runs (ap (λ p. after p (resume ps (at u c))) (sym (form_is _ _ _ _ _ _ _ _ m form)) ∙ same)).1

-- ---- APPLY

module _ (o : Outcome) (l : Go) (t : Tree) (go : Tree → Outcome) where
  within_is : size t ≤ applied_size → levels t ≤ applied_depth → after (within_bounds t go) l ≡ o → after (go t) l ≡ o
  within_is h i same =
      sym (ap (λ b. after (small_enough b t go) l) (le-leb (size t) applied_size h) ∙ ap (λ b. after (shallow_enough b t go) l) (le-leb (levels t) applied_depth i)) ∙ same

  bounds_are : size t ≤ applied_size → levels t ≤ applied_depth → within_bounds t go ≡ go t
  bounds_are h i = ap (λ b. small_enough b t go) (le-leb (size t) applied_size h) ∙ ap (λ b. shallow_enough b t go) (le-leb (levels t) applied_depth i)

  too_many_is : applied_size < size t → after (within_bounds t go) l ≡ o → o ≡ failed f.size_limit
  too_many_is h same = by (nat_le (size t) applied_size) refl
    where
      by : (b : Bool) → nat_le (size t) applied_size ≡ b → o ≡ failed f.size_limit
      by false e = sym same ∙ ap (λ b. after (small_enough b t go) l) e
      by true e = let n = leb-true (size t) applied_size e in absurd (omega (arith, h, n))

  too_deep_is : size t ≤ applied_size → applied_depth < levels t → after (within_bounds t go) l ≡ o → o ≡ failed f.depth_limit
  too_deep_is i h same = by (nat_le (levels t) applied_depth) refl
    where
      by : (b : Bool) → nat_le (levels t) applied_depth ≡ b → o ≡ failed f.depth_limit
      by false e = sym same ∙ (ap (λ b. after (small_enough b t go) l) (le-leb (size t) applied_size i) ∙ ap (λ b. after (shallow_enough b t go) l) e)
      by true e = let n = leb-true (levels t) applied_depth e in absurd (omega (arith, h, n))

module _ (u : Around) (m : Tally) (o : Outcome) (runs : Runs u o) (c : Context) (ps : List Pending) (a b r : Kind) (A : List Kind) (x : Val) (ts : Trees) (recursive : Bool) (W : List Val) where
  abbrev captured : Tally → Outcome
  captured m = within_bounds (applied a b r x (seq ts) recursive) (λ body. stack (k.lambda b r ∷ A) (v.lambda body false ∷ W) m)

  -- what is captured can be pushed
  tested : after (only_if (same_kind a a) (only_if (pushable a) (charge u.prices g.Apply (weight x) m captured))) (resume ps (at u c)) ≡ o →
      only_if (same_kind a a) (only_if (pushable a) (charge u.prices g.Apply (weight x) m captured)) ≡ charge u.prices g.Apply (weight x) m captured
  tested same =
      let go : Outcome = charge u.prices g.Apply (weight x) m captured in
      let one : after (only_if (pushable a) go) (resume ps (at u c)) ≡ o = ap (λ q. after (only_if q (only_if (pushable a) go)) (resume ps (at u c))) (sym (same_kind_refl a)) ∙ same in
      ap (λ q. only_if q (only_if (pushable a) go)) (same_kind_refl a) ∙ ap (λ q. only_if q go) (holds (resume ps (at u c)) o runs.sound (pushable a) go one)

  apply_is : after (only_if (same_kind a a) (only_if (pushable a) (charge u.prices g.Apply (weight x) m captured))) (resume ps (at u c)) ≡ o →
      after (charge u.prices g.Apply (weight x) m captured) (resume ps (at u c)) ≡ o
  apply_is same = sym (ap (λ z. after z (resume ps (at u c))) (tested same)) ∙ same

fail_is : (u : Around) (m : Tally) (o : Outcome) (a : Kind) (A : List Kind) (x : Val) (c : Context) (ps : List Pending) → Runs u o →
    after (only_if (pushable a) (paid (at u c) g.Failwith m (λ m. failed (f.failed_with a x)))) (resume ps (at u c)) ≡ o →
    after (paid (at u c) g.Failwith m (λ m. failed (f.failed_with a x))) (resume ps (at u c)) ≡ o
fail_is u m o a A x c ps runs same =
    sym (ap (λ q. after (only_if q (paid (at u c) g.Failwith m (λ m. failed (f.failed_with a x)))) (resume ps (at u c))) (holds (resume ps (at u c)) o runs.sound (pushable a) _ same)) ∙ same

-- what follows from an APPLY that comes first, on an argument and a lambda
abbrev Applied : List Frame → Around → Tally → ℕ → List Kind → Outcome → Kind → Kind → Kind → Val → Trees → Bool → List Val → Type 0 → Type 0
Applied fs u m d Z o a b r x ts recursive W P = (c : Context) (ps : List Pending) (A : List Kind) → Rests fs ps u c (k.lambda b r ∷ A) Z → d ≡ depth_of ps →
    after (charge u.prices g.Apply (weight x) m (λ m. within_bounds (applied a b r x (seq ts) recursive) (λ body. stack (k.lambda b r ∷ A) (v.lambda body false ∷ W) m))) (resume ps (at u c)) ≡ o →
    Ends u c ps (k.lambda b r ∷ A) (charge u.prices g.Apply (weight x) m (λ m. within_bounds (applied a b r x (seq ts) recursive) (λ body. stack (k.lambda b r ∷ A) (v.lambda body false ∷ W) m))) → P

module _ {fs : List Frame} {u : Around} {m : Tally} {d : ℕ} {Z : List Kind} {o : Outcome} where
  pub apply_top : {a b r : Kind} {V : List Val} → MeetsAt (made.apply a b r) fs u V m d Z o → HasCall V
  apply_top {a = a} {b = b} {r = r} {V = V} h = meets_by h by
    where
      by : Case (made.apply a b r) fs u V m d Z o (HasCall V)
      by ps c _ _ _ (is_apply {A = A} form) rests depth same = has_capture (resume ps (at u c)) o h.runs.sound a b r A V _ (ap (λ p. after p (resume ps (at u c))) (sym (form_is _ _ _ _ _ _ _ V m form)) ∙ same)

  module _ {a b r : Kind} (x : Val) (ts : Trees) (recursive : Bool) (W : List Val) (h : MeetsAt (made.apply a b r) fs u (x ∷ v.lambda (seq ts) recursive ∷ W) m d Z o) where
    apply_by : {P : Type 0} → Applied fs u m d Z o a b r x ts recursive W P → P
    apply_by {P = P} go = meets_fine h by
      where
        by : FineCase (made.apply a b r) fs u (x ∷ v.lambda (seq ts) recursive ∷ W) m d Z o P
        by ps c _ _ _ (is_apply {name = name} {annots = annots} {A = A} form) rests depth same typed small holds =
            let S : List Kind = a ∷ k.lambda (k.pair a b) r ∷ A in
            let V : List Val = x ∷ v.lambda (seq ts) recursive ∷ W in
            let is = form_is _ name annots none (at u c) (depth_of ps) S V m form in
            let unpaid = ap (λ p. after p (resume ps (at u c))) (sym is) ∙ same in
            let runs = is ∙ tested u m o h.runs c ps a b r A x ts recursive W unpaid in
            go c ps A rests depth (apply_is u m o h.runs c ps a b r A x ts recursive W unpaid) (ends_of (prim name annots none) S V m _ h.runs typed small holds runs)

    pub apply_acts : Pays u g.Apply (weight x) m → size (applied a b r x (seq ts) recursive) ≤ applied_size → levels (applied a b r x (seq ts) recursive) ≤ applied_depth →
        StandsAt fs u (v.lambda (applied a b r x (seq ts) recursive) false ∷ W) (less u g.Apply (weight x) m) d Z o
    apply_acts pays i j = apply_by (λ c ps A rests depth same ends.
        stands_of h.runs ps c (k.lambda b r ∷ A) rests depth
        (within_is o (resume ps (at u c)) _ (λ body. stack (k.lambda b r ∷ A) (v.lambda body false ∷ W) (less u g.Apply (weight x) m)) i j
        (when_paid u g.Apply (weight x) m (captured u m o h.runs c ps a b r A x ts recursive W) o _ (resume ps (at u c)) refl pays same))
        (ends (k.lambda b r ∷ A) (v.lambda (applied a b r x (seq ts) recursive) false ∷ W) (less u g.Apply (weight x) m)
        (pays_is u g.Apply (weight x) m (captured u m o h.runs c ps a b r A x ts recursive W) pays
        ∙ bounds_are o (resume ps (at u c)) (applied a b r x (seq ts) recursive) (λ body. stack (k.lambda b r ∷ A) (v.lambda body false ∷ W) (less u g.Apply (weight x) m)) i j)))

    pub apply_large : Pays u g.Apply (weight x) m → applied_size < size (applied a b r x (seq ts) recursive) → o ≡ failed f.size_limit
    apply_large pays i = apply_by (λ c ps A rests depth same ends.
        too_many_is o (resume ps (at u c)) _ (λ body. stack (k.lambda b r ∷ A) (v.lambda body false ∷ W) (less u g.Apply (weight x) m)) i
        (when_paid u g.Apply (weight x) m (captured u m o h.runs c ps a b r A x ts recursive W) o _ (resume ps (at u c)) refl pays same))

    pub apply_deep : Pays u g.Apply (weight x) m → size (applied a b r x (seq ts) recursive) ≤ applied_size → applied_depth < levels (applied a b r x (seq ts) recursive) → o ≡ failed f.depth_limit
    apply_deep pays i j = apply_by (λ c ps A rests depth same ends.
        too_deep_is o (resume ps (at u c)) _ (λ body. stack (k.lambda b r ∷ A) (v.lambda body false ∷ W) (less u g.Apply (weight x) m)) i j
        (when_paid u g.Apply (weight x) m (captured u m o h.runs c ps a b r A x ts recursive W) o _ (resume ps (at u c)) refl pays same))

    pub apply_broke : Lacks u g.Apply (weight x) m → o ≡ failed f.out_of_gas
    apply_broke lacks = apply_by (λ c ps A rests depth same ends.
        when_broke u g.Apply (weight x) m (captured u m o h.runs c ps a b r A x ts recursive W) o _ (resume ps (at u c)) refl lacks same)

  -- ---- FAILWITH and NEVER

  pub fail_top : {a : Kind} {V : List Val} → MeetsAt (made.failwith a) fs u V m d Z o → HasTop V
  fail_top {a = a} {V = V} h = meets_by h by
    where
      by : Case (made.failwith a) fs u V m d Z o (HasTop V)
      by ps c _ _ _ (is_failwith {A = A} form) rests depth same = has_top (resume ps (at u c)) o h.runs.sound (a ∷ A) V _ (ap (λ p. after p (resume ps (at u c))) (sym (form_is _ _ _ _ _ _ _ V m form)) ∙ same)

  pub fail_acts : {a : Kind} (x : Val) {W : List Val} → Pays u g.Failwith 0 m → MeetsAt (made.failwith a) fs u (x ∷ W) m d Z o → o ≡ failed (f.failed_with a x)
  fail_acts {a = a} x {W = W} pays h = meets_by h by
    where
      by : Case (made.failwith a) fs u (x ∷ W) m d Z o (o ≡ failed (f.failed_with a x))
      by ps c _ _ _ (is_failwith {A = A} form) rests depth same =
          sym (when_paid u g.Failwith 0 m (λ m. failed (f.failed_with a x)) o _ (resume ps (at u c)) refl pays (fail_is u m o a A x c ps h.runs (ap (λ p. after p (resume ps (at u c))) (sym (form_is _ _ _ _ _ _ _ _ m form)) ∙ same)))

  pub fail_broke : {a : Kind} (x : Val) {W : List Val} → Lacks u g.Failwith 0 m → MeetsAt (made.failwith a) fs u (x ∷ W) m d Z o → o ≡ failed f.out_of_gas
  fail_broke {a = a} x {W = W} lacks h = meets_by h by
    where
      by : Case (made.failwith a) fs u (x ∷ W) m d Z o (o ≡ failed f.out_of_gas)
      by ps c _ _ _ (is_failwith {A = A} form) rests depth same =
          when_broke u g.Failwith 0 m (λ m. failed (f.failed_with a x)) o _ (resume ps (at u c)) refl lacks (fail_is u m o a A x c ps h.runs (ap (λ p. after p (resume ps (at u c))) (sym (form_is _ _ _ _ _ _ _ _ m form)) ∙ same))

  -- no value has the type of its operand, so that no run comes to it
  pub never_meets : {V : List Val} → MeetsAt made.never fs u V m d Z o → ⊥
  never_meets {V = V} h = meets_by h by
    where
      by : Case made.never fs u V m d Z o ⊥
      by ps c _ _ _ (is_never form) rests depth same = h.runs.sound (sym (ap (λ p. after p (resume ps (at u c))) (sym (form_is _ _ _ _ _ _ _ V m form)) ∙ same))
