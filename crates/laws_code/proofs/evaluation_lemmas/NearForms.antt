-- Instructions of each form over runs that are near.
use Rattle.std.proofs.Common.{ℕ, Bool, true, false, List, [], ◌∷◌, ◌++◌, Option, Some, None, arith}
use Rattle.rules_code.specs.typing.Literals.{lambda_fault}
use Rattle.std.specs.Prelude.{is_none, pos, nat_le, ◌&&◌, length, take, drop}
use Rattle.rules_text.specs.nodes.Tree.{Tree, seq, Trees, size, depth}
use Rattle.rules_data.specs.declared.gas.Kind.{Kind as Priced}
use Rattle.rules_data.specs.types.Kind.{Kind}
use Rattle.rules_data.specs.types.Kind as k
use Rattle.rules_data.specs.types.Attributes.{pushable}
use Rattle.rules_code.specs.instructions.Types as t
use Rattle.rules_code.specs.instructions.Same.{same_kind}
use Rattle.rules_code.specs.instructions.Straight.{Straight, OperationRow, on_stack, on_pairs, on_unions, on_collections, on_numbers, on_truth, on_text, on_hashes, on_environment, on_operations, on_tickets}
use Rattle.rules_code.specs.instructions.Straight as i
use Rattle.rules_code.specs.instructions.Control.{call_kinds, push_of, self_of}
use Rattle.rules_code.specs.instructions.Arguments.{Found, found, fault}
use Rattle.rules_code.specs.instructions.Rules.{Ruled, ruled, faulty}
use Rattle.rules_data.specs.values.Val.{Val, Vals, no_val, more_vals}
use Rattle.rules_data.specs.values.Val as v
use Rattle.rules_data.specs.values.Literals.{read}
use Rattle.rules_data.specs.values.Weight.{weight}
use Rattle.rules_code.specs.steps.Failure as f
use Rattle.rules_code.specs.steps.Steps.{step}
use Rattle.rules_code.specs.steps.Costs.{kind_of, weight_of}
use Rattle.rules_code.specs.typing.Typing.{Typing, goes, fails, bad}
use Rattle.rules_code.specs.evaluation.Surroundings.{Surroundings}
use Rattle.rules_code.specs.evaluation.Operations.{Tally}
use Rattle.rules_code.specs.evaluation.Outcome.{Outcome, Run}
use Rattle.rules_code.specs.evaluation.Shapes.{on_top, on_truth as on_truth_value, on_option, on_union, on_list, on_call, on_capture}
use Rattle.rules_code.specs.evaluation.Branches.{chosen, if_run, if_none_run, if_left_run, if_cons_run, dip_run}
use Rattle.rules_code.specs.evaluation.Items.{items, mapped_items, with_items, rebuilt}
use Rattle.rules_code.specs.evaluation.Loops.{turn_where, turns_run, left_turns_run, loop_run, loop_left_run, each_run, iter_run, map_each_run, map_run}
use Rattle.rules_code.specs.evaluation.Calls.{in_lambda, call_values, exec_run, applied, shallow_enough, small_enough, apply_run, fail_run}
use Rattle.rules_code.specs.evaluation.Contracts.{Viewed, viewed}
use Rattle.rules_code.specs.evaluation.Trying.{trial}
use Rattle.rules_code.specs.evaluation.Given.{on_found, on_goes, value_of, push_run, body_of, lambda_run, self_run, script_of, on_delegate, on_origination, create_run}
use Rattle.rules_code.specs.evaluation.Operating.{in_view, view_run, operation_run}
use Rattle.rules_code.specs.evaluation.Straight.{minted_so_far, row_run, ruled_run}
use Rattle.laws_code.specs.evaluation.Laws.{IsCharged}
use Rattle.laws_code.proofs.evaluation_lemmas.Near.{Near, near_failed, near_stuck, near_stack, near_weaker, NearRun, NearBelow, run_weaker, below_run, near_after, near_only_if, near_ending, near_unless, near_charge, near_paid, near_finish, near_issue}

-- ---- the stacks that are asked for

pub near_on_top : (g : ℕ) (A : List Kind) (V : List Val) (p q : Kind → List Kind → Val → List Val → Outcome) → ((a : Kind) (A : List Kind) (x : Val) (V : List Val) → Near g (p a A x V) (q a A x V)) → Near g (on_top A V p) (on_top A V q)
near_on_top g (a ∷ A) (x ∷ V) p q n = n a A x V
near_on_top g _ _ p q n = near_stuck g

near_on_truth : (g : ℕ) (A : List Kind) (V : List Val) (p q : List Kind → Bool → List Val → Outcome) → ((A : List Kind) (b : Bool) (V : List Val) → Near g (p A b V) (q A b V)) → Near g (on_truth_value A V p) (on_truth_value A V q)
near_on_truth g (t.bool ∷ A) (v.truth b ∷ V) p q n = n A b V
near_on_truth g _ _ p q n = near_stuck g

near_on_option : (g : ℕ) (A : List Kind) (V : List Val) (p q : List Kind → List Val → Outcome) (r s : Kind → List Kind → Val → List Val → Outcome) → ((A : List Kind) (V : List Val) → Near g (p A V) (q A V)) → ((a : Kind) (A : List Kind) (x : Val) (V : List Val) → Near g (r a A x V) (s a A x V)) → Near g (on_option A V p r) (on_option A V q s)
near_on_option g (k.option a ∷ A) (v.nothing ∷ V) p q r s n h = n A V
near_on_option g (k.option a ∷ A) (v.some x ∷ V) p q r s n h = h a A x V
near_on_option g _ _ p q r s n h = near_stuck g

near_on_union : (g : ℕ) (A : List Kind) (V : List Val) (p q r s : Kind → Kind → List Kind → Val → List Val → Outcome) → ((a b : Kind) (A : List Kind) (x : Val) (V : List Val) → Near g (p a b A x V) (q a b A x V)) → ((a b : Kind) (A : List Kind) (x : Val) (V : List Val) → Near g (r a b A x V) (s a b A x V)) → Near g (on_union A V p r) (on_union A V q s)
near_on_union g (k.or a b ∷ A) (v.left x ∷ V) p q r s n h = n a b A x V
near_on_union g (k.or a b ∷ A) (v.right x ∷ V) p q r s n h = h a b A x V
near_on_union g _ _ p q r s n h = near_stuck g

near_on_list : (g : ℕ) (A : List Kind) (V : List Val) (p q : Kind → List Kind → Val → Vals → List Val → Outcome) (r s : List Kind → List Val → Outcome) → ((a : Kind) (A : List Kind) (x : Val) (xs : Vals) (V : List Val) → Near g (p a A x xs V) (q a A x xs V)) → ((A : List Kind) (V : List Val) → Near g (r A V) (s A V)) → Near g (on_list A V p r) (on_list A V q s)
near_on_list g (k.list a ∷ A) (v.list (more_vals x xs) ∷ V) p q r s n h = n a A x xs V
near_on_list g (k.list a ∷ A) (v.list no_val ∷ V) p q r s n h = h A V
near_on_list g _ _ p q r s n h = near_stuck g

near_on_call : (g : ℕ) (A : List Kind) (V : List Val) (p q : Kind → Kind → List Kind → Val → Trees → Bool → List Val → Outcome) → ((a r : Kind) (A : List Kind) (x : Val) (body : Trees) (self : Bool) (V : List Val) → Near g (p a r A x body self V) (q a r A x body self V)) → Near g (on_call A V p) (on_call A V q)
near_on_call g (a ∷ k.lambda a' r ∷ A) (x ∷ v.lambda (seq body) self ∷ V) p q n = near_only_if g (same_kind a a') _ _ (n a r A x body self V)
near_on_call g _ _ p q n = near_stuck g

near_on_capture : (g : ℕ) (A : List Kind) (V : List Val) (p q : Kind → Kind → Kind → List Kind → Val → Trees → Bool → List Val → Outcome) → ((a b r : Kind) (A : List Kind) (x : Val) (body : Trees) (self : Bool) (V : List Val) → Near g (p a b r A x body self V) (q a b r A x body self V)) → Near g (on_capture A V p) (on_capture A V q)
near_on_capture g (a ∷ k.lambda (k.pair a' b) r ∷ A) (x ∷ v.lambda (seq body) self ∷ V) p q n = near_only_if g (same_kind a a') _ _ (n a b r A x body self V)
near_on_capture g _ _ p q n = near_stuck g

pub near_on_found : {A : Type 0} (g : ℕ) (x : Found A) (p q : A → Outcome) → ((y : A) → Near g (p y) (q y)) → Near g (on_found x p) (on_found x q)
near_on_found g (found y) p q n = n y
near_on_found g (fault l) p q n = near_stuck g

near_on_goes : (g : ℕ) (u : Typing) (p q : List Kind → Outcome) → ((B : List Kind) → Near g (p B) (q B)) → Near g (on_goes u p) (on_goes u q)
near_on_goes g (goes B) p q n = n B
near_on_goes g fails p q n = near_stuck g
near_on_goes g (bad l) p q n = near_stuck g

-- ---- branches

near_chosen : (b : Bool) (g : ℕ) (r r' s s' : Run) → NearRun g r r' → NearRun g s s' → NearRun g (chosen b r s) (chosen b r' s')
near_chosen true g r r' s s' n h e c d A V m le = n e c d A V m le
near_chosen false g r r' s s' n h e c d A V m le = h e c d A V m le

module _ (e : Surroundings) (c : IsCharged e.prices) (d : ℕ) (m : Tally) where
  pub near_if : (A : List Kind) (V : List Val) (r r' s s' : Run) → NearRun m.gas r r' → NearRun m.gas s s' → Near m.gas (if_run r s e d A V m) (if_run r' s' e d A V m)
  near_if A V r r' s s' n h =
      near_on_truth m.gas A V _ _ (λ A b V. near_paid e _ m _ _ c (λ i lt. near_chosen b m.gas r r' s s' n h e c d A V i (omega arith)))

  pub near_if_none : (A : List Kind) (V : List Val) (r r' s s' : Run) → NearRun m.gas r r' → NearRun m.gas s s' → Near m.gas (if_none_run r s e d A V m) (if_none_run r' s' e d A V m)
  near_if_none A V r r' s s' n h =
      near_on_option m.gas A V _ _ _ _ (λ A V. near_paid e _ m _ _ c (λ i lt. n e c d A V i (omega arith))) (λ a A x V. near_paid e _ m _ _ c (λ i lt. h e c d (a ∷ A) (x ∷ V) i (omega arith)))

  pub near_if_left : (A : List Kind) (V : List Val) (r r' s s' : Run) → NearRun m.gas r r' → NearRun m.gas s s' → Near m.gas (if_left_run r s e d A V m) (if_left_run r' s' e d A V m)
  near_if_left A V r r' s s' n h =
      near_on_union m.gas A V _ _ _ _ (λ a b A x V. near_paid e _ m _ _ c (λ i lt. n e c d (a ∷ A) (x ∷ V) i (omega arith))) (λ a b A x V. near_paid e _ m _ _ c (λ i lt. h e c d (b ∷ A) (x ∷ V) i (omega arith)))

  pub near_if_cons : (A : List Kind) (V : List Val) (r r' s s' : Run) → NearRun m.gas r r' → NearRun m.gas s s' → Near m.gas (if_cons_run r s e d A V m) (if_cons_run r' s' e d A V m)
  near_if_cons A V r r' s s' n h =
      near_on_list m.gas A V _ _ _ _ (λ a A x xs V. near_paid e _ m _ _ c (λ i lt. n e c d (a ∷ k.list a ∷ A) (x ∷ v.list xs ∷ V) i (omega arith))) (λ A V. near_paid e _ m _ _ c (λ i lt. h e c d A V i (omega arith)))

  pub near_dip : (n : ℕ) (A : List Kind) (V : List Val) (r r' : Run) → NearRun m.gas r r' → Near m.gas (dip_run n r e d A V m) (dip_run n r' e d A V m)
  near_dip n A V r r' h =
      near_only_if m.gas (nat_le n (length A) && nat_le n (length V)) _ _ (near_paid e _ m _ _ c (λ i lt. near_after i.gas _ _ _ _ (h e c d (drop n A) (drop n V) i (omega arith)) (λ B W j le. near_stack i.gas (take n A ++ B) (take n V ++ W) j le)))

  -- ---- loops

  near_turn : (b : Bool) (A : List Kind) (V : List Val) (p q r r' : Run) → NearBelow m.gas p q → NearRun m.gas r r' → Near m.gas (turn_where b p r e d A V m) (turn_where b q r' e d A V m)
  near_turn true A V p q r r' n h =
      near_paid e _ m _ _ c (λ i lt. near_ending i.gas _ _ (t.bool ∷ A) _ _ (h e c d A V i (omega arith)) (λ B W j le. near_weaker j.gas i.gas _ _ le (n e c d B W j (omega arith))))
  near_turn false A V p q r r' n h = near_stack m.gas A V m (omega arith)

  pub near_turns : (A : List Kind) (V : List Val) (p q r r' : Run) → NearBelow m.gas p q → NearRun m.gas r r' → Near m.gas (turns_run p r e d A V m) (turns_run q r' e d A V m)
  near_turns A V p q r r' n h = near_on_truth m.gas A V _ _ (λ A b V. near_turn b A V p q r r' n h)

  pub near_left_turns : (A : List Kind) (V : List Val) (p q r r' : Run) → NearBelow m.gas p q → NearRun m.gas r r' → Near m.gas (left_turns_run p r e d A V m) (left_turns_run q r' e d A V m)
  near_left_turns A V p q r r' n h =
      near_on_union m.gas A V _ _ _ _
      (λ a b A x V. near_paid e _ m _ _ c (λ i lt. near_ending i.gas _ _ (k.or a b ∷ A) _ _ (h e c d (a ∷ A) (x ∷ V) i (omega arith)) (λ B W j le. near_weaker j.gas i.gas _ _ le (n e c d B W j (omega arith)))))
      (λ a b A x V. near_stack m.gas (b ∷ A) (x ∷ V) m (omega arith))

  pub near_loop : (A : List Kind) (V : List Val) (p q : Run) → NearBelow m.gas p q → Near m.gas (loop_run p e d A V m) (loop_run q e d A V m)
  near_loop A V p q n = near_on_truth m.gas A V _ _ (λ _ _ _. near_paid e _ m _ _ c (λ i lt. n e c d A V i lt))

  pub near_loop_left : (A : List Kind) (V : List Val) (p q : Run) → NearBelow m.gas p q → Near m.gas (loop_left_run p e d A V m) (loop_left_run q e d A V m)
  near_loop_left A V p q n =
      near_on_union m.gas A V _ _ _ _ (λ _ _ _ _ _. near_paid e _ m _ _ c (λ i lt. n e c d A V i lt)) (λ _ _ _ _ _. near_paid e _ m _ _ c (λ i lt. n e c d A V i lt))

module _ (e : Surroundings) (c : IsCharged e.prices) (d : ℕ) where
  near_each : (xs : List Val) (m : Tally) (a : Kind) (A : List Kind) (V : List Val) (r r' : Run) → NearRun m.gas r r' → Near m.gas (each_run r a xs e d A V m) (each_run r' a xs e d A V m)
  near_each [] m a A V r r' n = near_stack m.gas A V m (omega arith)
  near_each (x ∷ xs) m a A V r r' n =
      near_paid e _ m _ _ c (λ i lt. near_ending i.gas _ _ A _ _ (n e c d (a ∷ A) (x ∷ V) i (omega arith)) (λ B W j le. near_weaker j.gas i.gas _ _ le (near_each xs j a B W r r' (run_weaker m.gas j.gas r r' (omega arith) n))))

  pub near_iter : (A : List Kind) (V : List Val) (m : Tally) (r r' : Run) → NearRun m.gas r r' → Near m.gas (iter_run r e d A V m) (iter_run r' e d A V m)
  near_iter A V m r r' n =
      near_on_top m.gas A V _ _ (λ b A x V. near_unless m.gas (items b x) _ _ (λ is. near_paid e _ m _ _ c (λ i lt. near_each is.values i is.kind A V r r' (run_weaker m.gas i.gas r r' (omega arith) n))))

  near_map_each : (xs ys : List Val) (m : Tally) (a b : Kind) (made : List Val → Val) (z : Kind) (A : List Kind) (V : List Val) (r r' : Run) → NearRun m.gas r r' → Near m.gas (map_each_run r a b made z ys xs e d A V m) (map_each_run r' a b made z ys xs e d A V m)
  near_map_each [] ys m a b made z A V r r' n = near_stack m.gas (z ∷ A) (made ys ∷ V) m (omega arith)
  near_map_each (x ∷ xs) ys m a b made z A V r r' n =
      near_paid e _ m _ _ c (λ i lt. near_ending i.gas _ _ (b ∷ A) _ _ (n e c d (a ∷ A) (x ∷ V) i (omega arith)) (λ B W j le. near_weaker j.gas i.gas _ _ le (near_on_top j.gas B W _ _ (λ _ B y W. near_map_each xs (ys ++ y ∷ []) j a b made z B W r r' (run_weaker m.gas j.gas r r' (omega arith) n)))))

  pub near_map : (result : Kind → List Kind → Option Kind) (A : List Kind) (V : List Val) (m : Tally) (r r' : Run) → NearRun m.gas r r' → Near m.gas (map_run result r e d A V m) (map_run result r' e d A V m)
  near_map result A V m r r' n =
      near_on_top m.gas A V _ _ (λ z A x V. near_unless m.gas (mapped_items z x) _ _ (λ is. near_unless m.gas (result is.kind A) _ _ (λ b. near_paid e _ m _ _ c (λ i lt. near_map_each is.values [] i is.kind b (rebuilt x) (with_items z b) A V r r' (run_weaker m.gas i.gas r r' (omega arith) n)))))

-- ---- calls

-- nodes that are evaluated with less gas
abbrev pub NearNodes : ℕ → (Tree → Run) → (Tree → Run) → Type 0
NearNodes g p q = (x : Tree) → NearBelow g (p x) (q x)

near_shallow : (b : Bool) (g : ℕ) (x : Tree) (p : Tree → Outcome) → ((y : Tree) → Near g (p y) (p y)) → Near g (shallow_enough b x p) (shallow_enough b x p)
near_shallow true g x p n = n x
near_shallow false g x p n = near_failed g f.depth_limit

near_small : (b : Bool) (g : ℕ) (x : Tree) (p : Tree → Outcome) → ((y : Tree) → Near g (p y) (p y)) → Near g (small_enough b x p) (small_enough b x p)
near_small true g x p n = near_shallow (nat_le (depth x) 1000) g x p n
near_small false g x p n = near_failed g f.size_limit

module _ (e : Surroundings) (c : IsCharged e.prices) (d : ℕ) (m : Tally) where
  pub near_exec : (A : List Kind) (V : List Val) (p q : Tree → Run) → NearNodes m.gas p q → Near m.gas (exec_run p e d A V m) (exec_run q e d A V m)
  near_exec A V p q n =
      near_on_call m.gas A V _ _ (λ a r A x body self V. near_only_if m.gas (is_none (lambda_fault a r self (seq body))) _ _ (near_paid e _ m _ _ c (λ i lt. near_ending i.gas _ _ (r ∷ []) _ _ (n (seq body) (in_lambda e) c d (call_kinds a r self) (call_values x body self) i lt) (λ B W j le. near_stack i.gas (r ∷ A) (W ++ V) j le))))

  pub near_apply : (A : List Kind) (V : List Val) → Near m.gas (apply_run e d A V m) (apply_run e d A V m)
  near_apply A V =
      near_on_capture m.gas A V _ _ (λ a b r A x body self V. near_only_if m.gas (pushable a) _ _ (near_charge e.prices _ (weight x) m _ _ c (λ i lt. near_small (nat_le (size (applied a b r x (seq body) self)) 100000) i.gas (applied a b r x (seq body) self) _ (λ y. near_stack i.gas (k.lambda b r ∷ A) (v.lambda y false ∷ V) i (omega arith)))))

  pub near_fail : (A : List Kind) (V : List Val) → Near m.gas (fail_run e d A V m) (fail_run e d A V m)
  near_fail A V = near_on_top m.gas A V _ _ (λ a A x V. near_only_if m.gas (pushable a) _ _ (near_paid e _ m _ _ c (λ i lt. near_failed i.gas _)))

  -- ---- what is written in arguments

  pub near_push : (ts : Trees) (u : Typing) (A : List Kind) (V : List Val) → Near m.gas (push_run ts u e d A V m) (push_run ts u e d A V m)
  near_push ts u A V =
      near_on_found m.gas (push_of ts) _ _ (λ w. near_unless m.gas (value_of (read w.kind w.location w.literal)) _ _ (λ x. near_on_goes m.gas u _ _ (λ B. near_charge e.prices _ (weight x) m _ _ c (λ i lt. near_stack i.gas B (x ∷ V) i (omega arith)))))

  pub near_lambda : (kind : Priced) (self : Bool) (ts : Trees) (u : Typing) (A : List Kind) (V : List Val) → Near m.gas (lambda_run kind self ts u e d A V m) (lambda_run kind self ts u e d A V m)
  near_lambda kind self ts u A V =
      near_unless m.gas (body_of ts) _ _ (λ body. near_on_goes m.gas u _ _ (λ B. near_paid e kind m _ _ c (λ i lt. near_stack i.gas B (v.lambda body self ∷ V) i (omega arith))))

  pub near_self : (annots : List (List ℕ)) (ts : Trees) (u : Typing) (A : List Kind) (V : List Val) → Near m.gas (self_run annots ts u e d A V m) (self_run annots ts u e d A V m)
  near_self annots ts u A V =
      near_on_found m.gas (self_of annots ts) _ _ (λ name. near_on_goes m.gas u _ _ (λ B. near_paid e _ m _ _ c (λ i lt. near_stack i.gas B _ i (omega arith))))

  near_delegate : (x : Val) (p : Option (List ℕ) → Outcome) → ((y : Option (List ℕ)) → Near m.gas (p y) (p y)) → Near m.gas (on_delegate x p) (on_delegate x p)
  near_delegate v.nothing p n = n None
  near_delegate (v.some (v.bytes b)) p n = n (Some b)
  near_delegate _ p n = near_stuck m.gas

  near_origination : (V : List Val) (p : Option (List ℕ) → ℕ → Val → List Val → Outcome) → ((y : Option (List ℕ)) (amount : ℕ) (x : Val) (V : List Val) → Near m.gas (p y amount x V) (p y amount x V)) → Near m.gas (on_origination V p) (on_origination V p)
  near_origination (x ∷ v.number (pos amount) ∷ y ∷ V) p n = near_delegate x (λ delegate. p delegate amount y V) (λ delegate. n delegate amount y V)
  near_origination _ p n = near_stuck m.gas

  pub near_create : (ts : Trees) (u : Typing) (A : List Kind) (V : List Val) → Near m.gas (create_run ts u e d A V m) (create_run ts u e d A V m)
  near_create ts u A V =
      near_unless m.gas (script_of ts) _ _ (λ script. near_on_goes m.gas u _ _ (λ B. near_origination V _ (λ delegate amount x V. near_paid e _ m _ _ c (λ i lt. near_issue _ _ _ (λ o j same. near_stack i.gas B _ j (omega arith))))))

-- ---- instructions without bodies

-- nodes that are evaluated with as much gas or less
abbrev pub NearCalls : ℕ → (Tree → Run) → (Tree → Run) → Type 0
NearCalls g p q = (x : Tree) → NearRun g (p x) (q x)

module _ (p q : Tree → Run) (e : Surroundings) (c : IsCharged e.prices) (d : ℕ) (m : Tally) (n : NearCalls m.gas p q) where
  near_view : (a b : Kind) (w : Option Viewed) (x : Val) (A : List Kind) (V : List Val) → Near m.gas (view_run p e d a b w x A V m) (view_run q e d a b w x A V m)
  near_view a b None x A V = near_stack m.gas A _ _ (omega arith)
  near_view a b (Some w) x A V =
      near_ending m.gas _ _ (b ∷ []) _ _ (n w.body (in_view e w) c d _ _ m (omega arith)) (λ B W j le. near_on_top m.gas B W _ _ (λ _ _ y _. near_stack m.gas A (v.some y ∷ V) _ le))

  near_operation : (row : OperationRow) (B : List Kind) (V : List Val) → Near m.gas (operation_run p row e d B V m) (operation_run q row e d B V m)
  near_operation i.address B (v.bytes b ∷ V) = near_stack m.gas B _ m (omega arith)
  near_operation i.implicit_account B (v.bytes b ∷ V) = near_stack m.gas B _ m (omega arith)
  near_operation (i.contract name a) B (v.bytes b ∷ V) = near_stack m.gas B _ m (omega arith)
  near_operation i.transfer_tokens B (x ∷ v.number (pos amount) ∷ v.bytes b ∷ V) = near_issue _ m _ (λ o j same. near_stack m.gas B _ j (omega arith))
  near_operation (i.emit tag a) B (x ∷ V) = near_issue _ m _ (λ o j same. near_stack m.gas B _ j (omega arith))
  near_operation (i.view name a b) B (x ∷ v.bytes b' ∷ V) = near_view a b (viewed e.contract_at name a b b') x B V
  near_operation _ B _ = near_stuck m.gas

  near_row : (row : Straight) (B : List Kind) (V : List Val) → Near m.gas (row_run p row e d B V m) (row_run q row e d B V m)
  near_row (on_operations row) B V = near_operation row B V
  near_row (on_stack row) B V = near_finish _ B m
  near_row (on_pairs row) B V = near_finish _ B m
  near_row (on_unions row) B V = near_finish _ B m
  near_row (on_collections row) B V = near_finish _ B m
  near_row (on_numbers row) B V = near_finish _ B m
  near_row (on_truth row) B V = near_finish _ B m
  near_row (on_text row) B V = near_finish _ B m
  near_row (on_hashes row) B V = near_finish _ B m
  near_row (on_environment row) B V = near_finish (step e.environment (minted_so_far e m) (trial e) (on_environment row) V) B m
  near_row (on_tickets row) B V = near_finish _ B m

pub near_ruled : (e : Surroundings) → IsCharged e.prices → (d : ℕ) (m : Tally) (p q : Tree → Run) → NearNodes m.gas p q → (x : Ruled) (A : List Kind) (V : List Val) → Near m.gas (ruled_run p x e d A V m) (ruled_run q x e d A V m)
near_ruled e c d m p q n (ruled row B) A V =
    near_charge e.prices (kind_of row) (weight_of row V) m _ _ c (λ i lt. near_row p q e c d i (λ x. below_run m.gas i.gas (p x) (q x) lt (n x)) row B V)
near_ruled e c d m p q n (faulty l) A V = near_stuck m.gas
