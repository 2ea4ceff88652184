-- Values that lambdas capture.
use Rattle.std.proofs.Common.{◌≡◌, ◌<◌, ◌≤◌, ℕ, Bool, true, false, List, [], ◌∷◌, refl, ap, sym, ◌∙◌, subst}
use Rattle.rules_text.specs.nodes.Limits.{applied_size, applied_depth}
use Rattle.rules_text.specs.nodes.Tree.{Tree, seq, Trees, none, size}
use Rattle.rules_text.specs.nodes.Tree.{depth as levels}
use Rattle.rules_data.specs.declared.gas.Kind.TheVariants as g
use Rattle.rules_data.specs.types.Kind.{Kind}
use Rattle.rules_data.specs.types.Kind as k
use Rattle.rules_data.specs.types.Attributes.{pushable}
use Rattle.rules_data.specs.values.Val.{Val}
use Rattle.rules_data.specs.values.Val as v
use Rattle.rules_data.specs.values.Weight.{weight}
use Rattle.rules_code.specs.steps.Failure as f
use Rattle.rules_code.specs.typing.Fits.{Fits}
use Rattle.rules_code.specs.evaluation.Calls.{applied, within_bounds}
use Rattle.rules_code.specs.evaluation.Operations.{Tally}
use Rattle.rules_code.specs.evaluation.Outcome.{Outcome, stack, failed, after, only_if, charge}
use Rattle.rules_data.specs.values.Canonical.{canonical}
use Rattle.rules_code.specs.instructions.Context as place
use Rattle.laws_code.specs.evaluation.Laws.{known, IsType}
use Rattle.laws_code.proofs.stacks.ForCallers.{type_argument, type_first}
use Rattle.laws_code.proofs.literals.ForCallers.{captured_again, push_typed}
use Rattle.mich_interpreter.specs.Applied.{Captures}
use Rattle.laws_data.proofs.types_lemmas.ForCallers.{same_kind_refl}
use Rattle.mich_store_steps.proofs.seen.ForCallers.{pushable_seen}
use Rattle.mich_term.specs.ValueView.{val}
use Rattle.mich_term.specs.declared.value.Value.{Value}
use Rattle.mich_stack.specs.Views.{Sight, seen}
use Rattle.mich_instr.specs.Code as made
use Rattle.mich_instr.specs.Typed.{is_apply}
use Rattle.mich_frames.specs.Around.{Around, at, less, Pays, Lacks}
use Rattle.mich_frames.specs.Frames.{Frame}
use Rattle.mich_frames.specs.Pending.{depth_of, resume}
use Rattle.mich_frames.specs.Stands.{StandsAt, MeetsAt}
use Rattle.mich_frames.specs.Shapes.{HasCall}
use Rattle.mich_frames.proofs.ForCallers.{apply_top, apply_acts, apply_large, apply_deep, apply_broke, FineCase, meets_fine, form_is, holds}

module _ {fs : List Frame} {u : Around} {m : Tally} {d : ℕ} {Z : List Kind} {o : Outcome} {a b r : Kind} where
  captured_fits : (x : Val) (ts : Trees) (recursive : Bool) (W : List Val) → MeetsAt (made.apply a b r) fs u (x ∷ v.lambda (seq ts) recursive ∷ W) m d Z o → (pushable a ≡ true) × Fits (known u.contract_at m.issued) a x
  captured_fits x ts recursive W h = meets_fine h by
    where
      by : FineCase (made.apply a b r) fs u (x ∷ v.lambda (seq ts) recursive ∷ W) m d Z o ((pushable a ≡ true) × Fits (known u.contract_at m.issued) a x)
      by ps c _ _ _ (is_apply {name = name} {annots = annots} {A = A} form) rests depth same typed small fine =
          let charged : Outcome = charge u.prices g.Apply (weight x) m (λ m. within_bounds (applied a b r x (seq ts) recursive) (λ body. stack (k.lambda b r ∷ A) (v.lambda body false ∷ W) m)) in
          let go : Outcome = only_if (pushable a) charged in
          let one : after go (resume ps (at u c)) ≡ o =
          ap (λ q. after (only_if q go) (resume ps (at u c))) (sym (same_kind_refl a)) ∙ ap (λ p. after p (resume ps (at u c))) (sym (form_is _ name annots none (at u c) (depth_of ps) (a ∷ k.lambda (k.pair a b) r ∷ A) (x ∷ v.lambda (seq ts) recursive ∷ W) m form)) ∙ same in
          (holds (resume ps (at u c)) o h.runs.sound (pushable a) charged one, fine.fits.0)

  -- what is captured is seen alike by all
  pub captured_seen : (big : Sight) (x : Value) (t : Tree) (recursive : Bool) (W : List Val) → MeetsAt (made.apply a b r) fs u (seen big x ∷ v.lambda t recursive ∷ W) m d Z o → seen big x ≡ val x
  captured_seen big x (seq ts) recursive W h = let f = captured_fits (seen big x) ts recursive W h in pushable_seen (known u.contract_at m.issued) big a x f.0 f.1
  captured_seen big x _ recursive W h = absurd (apply_top h)

  captured_whole : (x : Val) (ts : Trees) (recursive : Bool) (W : List Val) → MeetsAt (made.apply a b r) fs u (x ∷ v.lambda (seq ts) recursive ∷ W) m d Z o → IsType (k.lambda (k.pair a b) r)
  captured_whole x ts recursive W h = meets_fine h by
    where
      by : FineCase (made.apply a b r) fs u (x ∷ v.lambda (seq ts) recursive ∷ W) m d Z o (IsType (k.lambda (k.pair a b) r))
      by ps c _ _ _ (is_apply form) rests depth same typed small fine = fine.types.1.0

  -- the literal of what is captured and the node that is made are what the typed code is made of
  captures_is : (x : Val) (t : Tree) (recursive : Bool) (W : List Val) (literal node : Tree) → MeetsAt (made.apply a b r) fs u (x ∷ v.lambda t recursive ∷ W) m d Z o → literal ≡ canonical x →
      node ≡ applied a b r x t recursive → Captures a b r x literal t recursive node
  captures_is x (seq ts) recursive W literal node h e g =
      let f = captured_fits x ts recursive W h in
      let whole = captured_whole x ts recursive W h in
      let first = type_first a b (type_argument (k.pair a b) r whole) in
      record {
        pushes = f.0;
        gives = captured_again (known u.contract_at m.issued) a x f.0 first f.1;
        whole = whole;
        typed = push_typed (known u.contract_at m.issued) a x f.0 first f.1 place.lambda (b ∷ []);
        spelled = e;
        sequence = refl;
        made = g;
      }
  captures_is x _ recursive W literal node h e g = absurd (apply_top h)

  pub captures_value : (big : Sight) (x : Value) (t : Tree) (recursive : Bool) (W : List Val) (literal node : Tree) → MeetsAt (made.apply a b r) fs u (seen big x ∷ v.lambda t recursive ∷ W) m d Z o →
      literal ≡ canonical (val x) → node ≡ applied a b r (val x) t recursive → Captures a b r (val x) literal t recursive node
  captures_value big x t recursive W literal node h e g =
      let same = captured_seen big x t recursive W h in
      subst (λ (z : Val). Captures a b r z literal t recursive node) same
      (captures_is (seen big x) t recursive W literal node h (e ∙ ap canonical (sym same)) (g ∙ ap (λ (z : Val). applied a b r z t recursive) (sym same)))

  pub apply_any_broke : (x : Val) (V : List Val) → Lacks u g.Apply (weight x) m → MeetsAt (made.apply a b r) fs u (x ∷ V) m d Z o → HasCall (x ∷ V) → o ≡ failed f.out_of_gas
  apply_any_broke x (v.lambda (seq ts) recursive ∷ W) lacks h top = apply_broke x ts recursive W h lacks
  apply_any_broke x _ lacks h top = absurd top

  module _ (x : Val) (t : Tree) (recursive : Bool) (W : List Val) (h : MeetsAt (made.apply a b r) fs u (x ∷ v.lambda t recursive ∷ W) m d Z o) (pays : Pays u g.Apply (weight x) m) where
    pub apply_any_acts : size (applied a b r x t recursive) ≤ applied_size → levels (applied a b r x t recursive) ≤ applied_depth →
        StandsAt fs u (v.lambda (applied a b r x t recursive) false ∷ W) (less u g.Apply (weight x) m) d Z o
    apply_any_acts = by t h
      where
        by : (t : Tree) → MeetsAt (made.apply a b r) fs u (x ∷ v.lambda t recursive ∷ W) m d Z o → size (applied a b r x t recursive) ≤ applied_size → levels (applied a b r x t recursive) ≤ applied_depth →
            StandsAt fs u (v.lambda (applied a b r x t recursive) false ∷ W) (less u g.Apply (weight x) m) d Z o
        by (seq ts) h i j = apply_acts x ts recursive W h pays i j
        by _ h i j = absurd (apply_top h)

    pub apply_any_large : applied_size < size (applied a b r x t recursive) → o ≡ failed f.size_limit
    apply_any_large = by t h
      where
        by : (t : Tree) → MeetsAt (made.apply a b r) fs u (x ∷ v.lambda t recursive ∷ W) m d Z o → applied_size < size (applied a b r x t recursive) → o ≡ failed f.size_limit
        by (seq ts) h i = apply_large x ts recursive W h pays i
        by _ h i = absurd (apply_top h)

    pub apply_any_deep : size (applied a b r x t recursive) ≤ applied_size → applied_depth < levels (applied a b r x t recursive) → o ≡ failed f.depth_limit
    apply_any_deep = by t h
      where
        by : (t : Tree) → MeetsAt (made.apply a b r) fs u (x ∷ v.lambda t recursive ∷ W) m d Z o → size (applied a b r x t recursive) ≤ applied_size → applied_depth < levels (applied a b r x t recursive) → o ≡ failed f.depth_limit
        by (seq ts) h i j = apply_deep x ts recursive W h pays i j
        by _ h i j = absurd (apply_top h)
