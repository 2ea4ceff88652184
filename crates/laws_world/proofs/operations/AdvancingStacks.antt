-- Branches and loops over runs that advance.
use Rattle.std.proofs.Common.{ℕ, Bool, true, false, List, [], ◌∷◌, ◌++◌}
use Rattle.std.specs.Prelude.{nat_le, ◌&&◌, length, drop}
use Rattle.std.specs.declared.option.Option.{Option}
use Rattle.rules_text.specs.nodes.Tree.{seq, Trees}
use Rattle.rules_data.specs.types.Kind.{Kind}
use Rattle.rules_data.specs.types.Kind as k
use Rattle.rules_code.specs.instructions.Types as t
use Rattle.rules_code.specs.instructions.Same.{same_kind}
use Rattle.rules_code.specs.instructions.Arguments.{Found, found, fault}
use Rattle.rules_data.specs.values.Val.{Val, Vals, no_val, more_vals}
use Rattle.rules_data.specs.values.Val as v
use Rattle.rules_code.specs.typing.Typing.{Typing, goes, fails, bad}
use Rattle.rules_code.specs.evaluation.Surroundings.{Surroundings}
use Rattle.rules_code.specs.evaluation.Operations.{Tally}
use Rattle.rules_code.specs.evaluation.Outcome.{Outcome, Run}
use Rattle.rules_code.specs.evaluation.Shapes.{on_top, on_truth as on_truth_value, on_option, on_union, on_list, on_call, on_capture}
use Rattle.rules_code.specs.evaluation.Branches.{chosen, if_run, if_none_run, if_left_run, if_cons_run, dip_run}
use Rattle.rules_code.specs.evaluation.Items.{items, mapped_items, with_items, rebuilt}
use Rattle.rules_code.specs.evaluation.Loops.{turn_where, turns_run, left_turns_run, loop_run, loop_left_run, each_run, iter_run, map_each_run, map_run}
use Rattle.rules_code.specs.evaluation.Given.{on_found, on_goes}
use Rattle.laws_world.specs.operations.NewOperations.{Advances, AdvancesTo}
use Rattle.laws_world.proofs.operations.Advances.{to_after, to_only_if, to_ending, to_unless, to_paid, AdvancingRun}

-- ---- the stacks that are asked for

module _ (g : ℕ) (s : Tally) where
  abbrev To : Outcome → Type 0
  To = AdvancesTo g s

  pub to_top : (A : List Kind) (V : List Val) (p : Kind → List Kind → Val → List Val → Outcome) →
      ((a : Kind) (A : List Kind) (x : Val) (V : List Val) → To (p a A x V)) → To (on_top A V p)
  to_top (a ∷ A) (x ∷ V) p n = n a A x V
  to_top _ _ p n = tt

  to_truth : (A : List Kind) (V : List Val) (p : List Kind → Bool → List Val → Outcome) →
      ((A : List Kind) (b : Bool) (V : List Val) → To (p A b V)) → To (on_truth_value A V p)
  to_truth (t.bool ∷ A) (v.truth b ∷ V) p n = n A b V
  to_truth _ _ p n = tt

  to_option : (A : List Kind) (V : List Val) (p : List Kind → List Val → Outcome)
      (r : Kind → List Kind → Val → List Val → Outcome) → ((A : List Kind) (V : List Val) → To (p A V)) →
      ((a : Kind) (A : List Kind) (x : Val) (V : List Val) → To (r a A x V)) → To (on_option A V p r)
  to_option (k.option a ∷ A) (v.nothing ∷ V) p r n h = n A V
  to_option (k.option a ∷ A) (v.some x ∷ V) p r n h = h a A x V
  to_option _ _ p r n h = tt

  to_union : (A : List Kind) (V : List Val) (p r : Kind → Kind → List Kind → Val → List Val → Outcome) →
      ((a b : Kind) (A : List Kind) (x : Val) (V : List Val) → To (p a b A x V)) →
      ((a b : Kind) (A : List Kind) (x : Val) (V : List Val) → To (r a b A x V)) → To (on_union A V p r)
  to_union (k.or a b ∷ A) (v.left x ∷ V) p r n h = n a b A x V
  to_union (k.or a b ∷ A) (v.right x ∷ V) p r n h = h a b A x V
  to_union _ _ p r n h = tt

  to_list : (A : List Kind) (V : List Val) (p : Kind → List Kind → Val → Vals → List Val → Outcome)
      (r : List Kind → List Val → Outcome) →
      ((a : Kind) (A : List Kind) (x : Val) (xs : Vals) (V : List Val) → To (p a A x xs V)) →
      ((A : List Kind) (V : List Val) → To (r A V)) → To (on_list A V p r)
  to_list (k.list a ∷ A) (v.list (more_vals x xs) ∷ V) p r n h = n a A x xs V
  to_list (k.list a ∷ A) (v.list no_val ∷ V) p r n h = h A V
  to_list _ _ p r n h = tt

  pub to_call : (A : List Kind) (V : List Val) (p : Kind → Kind → List Kind → Val → Trees → Bool → List Val → Outcome) →
      ((a r : Kind) (A : List Kind) (x : Val) (body : Trees) (self : Bool) (V : List Val) → To (p a r A x body self V)) →
      To (on_call A V p)
  to_call (a ∷ k.lambda a' r ∷ A) (x ∷ v.lambda (seq body) self ∷ V) p n = to_only_if g s (same_kind a a') _
      (n a r A x body self V)
  to_call _ _ p n = tt

  pub to_capture : (A : List Kind) (V : List Val) (p : Kind → Kind → Kind → List Kind → Val → Trees → Bool → List Val → Outcome) →
      ((a b r : Kind) (A : List Kind) (x : Val) (body : Trees) (self : Bool) (V : List Val) → To (p a b r A x body self V)) →
      To (on_capture A V p)
  to_capture (a ∷ k.lambda (k.pair a' b) r ∷ A) (x ∷ v.lambda (seq body) self ∷ V) p n = to_only_if g s (same_kind a a') _
      (n a b r A x body self V)
  to_capture _ _ p n = tt

  pub to_found : {A : Type 0} (x : Found A) (p : A → Outcome) → ((y : A) → To (p y)) → To (on_found x p)
  to_found (found y) p n = n y
  to_found (fault l) p n = tt

  pub to_goes : (u : Typing) (p : List Kind → Outcome) → ((B : List Kind) → To (p B)) → To (on_goes u p)
  to_goes (goes B) p n = n B
  to_goes fails p n = tt
  to_goes (bad l) p n = tt

-- ---- branches

to_chosen : (b : Bool) (r s : Run) → AdvancingRun r → AdvancingRun s → AdvancingRun (chosen b r s)
to_chosen true r s h i = h
to_chosen false r s h i = i

module _ (e : Surroundings) (d : ℕ) (s m : Tally) (a : Advances e.group s m) where
  pub to_if : (A : List Kind) (V : List Val) (r q : Run) → AdvancingRun r → AdvancingRun q →
      AdvancesTo e.group s (if_run r q e d A V m)
  to_if A V r q h i = to_truth e.group s A V _ (λ A b V. to_paid e.group s m a e _ _ (λ n c. to_chosen b r q h i e d A V s n c))

  pub to_if_none : (A : List Kind) (V : List Val) (r q : Run) → AdvancingRun r → AdvancingRun q →
      AdvancesTo e.group s (if_none_run r q e d A V m)
  to_if_none A V r q h i =
      to_option e.group s A V _ _ (λ A V. to_paid e.group s m a e _ _ (λ n c. h e d A V s n c))
      (λ b A x V. to_paid e.group s m a e _ _ (λ n c. i e d (b ∷ A) (x ∷ V) s n c))

  pub to_if_left : (A : List Kind) (V : List Val) (r q : Run) → AdvancingRun r → AdvancingRun q →
      AdvancesTo e.group s (if_left_run r q e d A V m)
  to_if_left A V r q h i =
      to_union e.group s A V _ _ (λ a' b A x V. to_paid e.group s m a e _ _ (λ n c. h e d (a' ∷ A) (x ∷ V) s n c))
      (λ a' b A x V. to_paid e.group s m a e _ _ (λ n c. i e d (b ∷ A) (x ∷ V) s n c))

  pub to_if_cons : (A : List Kind) (V : List Val) (r q : Run) → AdvancingRun r → AdvancingRun q →
      AdvancesTo e.group s (if_cons_run r q e d A V m)
  to_if_cons A V r q h i =
      to_list e.group s A V _ _ (λ b A x xs V. to_paid e.group s m a e _ _
      (λ n c. h e d (b ∷ k.list b ∷ A) (x ∷ v.list xs ∷ V) s n c))
      (λ A V. to_paid e.group s m a e _ _ (λ n c. i e d A V s n c))

  pub to_dip : (n : ℕ) (A : List Kind) (V : List Val) (r : Run) → AdvancingRun r → AdvancesTo e.group s (dip_run n r e d A V m)
  to_dip n A V r h =
      to_only_if e.group s (nat_le n (length A) && nat_le n (length V)) _
      (to_paid e.group s m a e _ _ (λ j c. to_after e.group s _ _ (h e d (drop n A) (drop n V) s j c) (λ B W l b. b)))

  -- ---- loops

  to_turn : (b : Bool) (A : List Kind) (V : List Val) (p r : Run) → AdvancingRun p → AdvancingRun r →
      AdvancesTo e.group s (turn_where b p r e d A V m)
  to_turn true A V p r n h = to_paid e.group s m a e _ _ (λ j c. to_ending e.group s _ (t.bool ∷ A) _ (h e d A V s j c)
      (λ B W l b. n e d B W s l b))
  to_turn false A V p r n h = a

  pub to_turns : (A : List Kind) (V : List Val) (p r : Run) → AdvancingRun p → AdvancingRun r →
      AdvancesTo e.group s (turns_run p r e d A V m)
  to_turns A V p r n h = to_truth e.group s A V _ (λ A b V. to_turn b A V p r n h)

  pub to_left_turns : (A : List Kind) (V : List Val) (p r : Run) → AdvancingRun p → AdvancingRun r →
      AdvancesTo e.group s (left_turns_run p r e d A V m)
  to_left_turns A V p r n h =
      to_union e.group s A V _ _
      (λ a' b A x V. to_paid e.group s m a e _ _ (λ j c. to_ending e.group s _ (k.or a' b ∷ A) _ (h e d (a' ∷ A) (x ∷ V) s j c)
      (λ B W l i. n e d B W s l i)))
      (λ a' b A x V. a)

  pub to_loop : (A : List Kind) (V : List Val) (p : Run) → AdvancingRun p → AdvancesTo e.group s (loop_run p e d A V m)
  to_loop A V p n = to_truth e.group s A V _ (λ _ _ _. to_paid e.group s m a e _ _ (λ j c. n e d A V s j c))

  pub to_loop_left : (A : List Kind) (V : List Val) (p : Run) → AdvancingRun p → AdvancesTo e.group s (loop_left_run p e d A V m)
  to_loop_left A V p n =
      to_union e.group s A V _ _ (λ _ _ _ _ _. to_paid e.group s m a e _ _ (λ j c. n e d A V s j c))
      (λ _ _ _ _ _. to_paid e.group s m a e _ _ (λ j c. n e d A V s j c))

module _ (e : Surroundings) (d : ℕ) (s : Tally) where
  to_each : (xs : List Val) (m : Tally) → Advances e.group s m → (b : Kind) (A : List Kind) (V : List Val) (r : Run) →
      AdvancingRun r → AdvancesTo e.group s (each_run r b xs e d A V m)
  to_each [] m a b A V r n = a
  to_each (x ∷ xs) m a b A V r n =
      to_paid e.group s m a e _ _ (λ j c. to_ending e.group s _ A _ (n e d (b ∷ A) (x ∷ V) s j c)
      (λ B W l i. to_each xs l i b B W r n))

  pub to_iter : (A : List Kind) (V : List Val) (m : Tally) → Advances e.group s m → (r : Run) → AdvancingRun r →
      AdvancesTo e.group s (iter_run r e d A V m)
  to_iter A V m a r n = to_top e.group s A V _ (λ b A x V. to_unless e.group s (items b x) _
      (λ is. to_paid e.group s m a e _ _ (λ j c. to_each is.values j c is.kind A V r n)))

  to_map_each : (xs ys : List Val) (m : Tally) → Advances e.group s m →
      (b c : Kind) (made : List Val → Val) (z : Kind) (A : List Kind) (V : List Val) (r : Run) → AdvancingRun r →
      AdvancesTo e.group s (map_each_run r b c made z ys xs e d A V m)
  to_map_each [] ys m a b c made z A V r n = a
  to_map_each (x ∷ xs) ys m a b c made z A V r n =
      to_paid e.group s m a e _ _ (λ j i. to_ending e.group s _ (c ∷ A) _ (n e d (b ∷ A) (x ∷ V) s j i)
      (λ B W l h. to_top e.group s B W _ (λ _ B y W. to_map_each xs (ys ++ y ∷ []) l h b c made z B W r n)))

  pub to_map : (result : Kind → List Kind → Option Kind) (A : List Kind) (V : List Val) (m : Tally) → Advances e.group s m →
      (r : Run) → AdvancingRun r → AdvancesTo e.group s (map_run result r e d A V m)
  to_map result A V m a r n =
      to_top e.group s A V _ (λ z A x V. to_unless e.group s (mapped_items z x) _
      (λ is. to_unless e.group s (result is.kind A) _ (λ c. to_paid e.group s m a e _ _ (λ j i.
      to_map_each is.values [] j i is.kind c (rebuilt x) (with_items z c) A V r n))))
