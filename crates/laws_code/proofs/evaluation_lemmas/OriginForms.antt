-- What code issues is new: instructions of each form.
use Rattle.std.proofs.Common.{ℕ, zero, suc, Bool, true, false, List, [], ◌∷◌, ◌++◌, Option, Some, None, refl, arith}
use Rattle.rules_code.specs.typing.Literals.{lambda_fault}
use Rattle.std.specs.Prelude.{is_none, pos, nat_lt, nat_le, ◌&&◌, length, take, drop, option_map}
use Rattle.rules_text.specs.nodes.Tree.{Tree, int, str, bytes, prim, seq, Trees, none, more, size, depth}
use Rattle.rules_text.specs.nodes.Primitives.{primitive_of_name}
use Rattle.rules_text.specs.declared.nodes.Primitive.{Primitive}
use Rattle.rules_data.specs.forms.Spelling.{implicit_place, contract_place, spelled_address}
use Rattle.rules_data.specs.declared.gas.Kind.{Kind as Priced}
use Rattle.rules_data.specs.types.Kind.{Kind}
use Rattle.rules_data.specs.types.Kind as k
use Rattle.rules_data.specs.types.Attributes.{pushable}
use Rattle.rules_code.specs.instructions.Types as t
use Rattle.rules_code.specs.instructions.Same.{same_kind, same_kinds}
use Rattle.rules_code.specs.instructions.Context.{Context, main, view, lambda}
use Rattle.rules_code.specs.instructions.Straight.{Straight, OperationRow, on_stack, on_pairs, on_unions, on_collections, on_numbers, on_truth, on_text, on_hashes, on_environment, on_operations, on_tickets}
use Rattle.rules_code.specs.instructions.Straight as i
use Rattle.rules_code.specs.instructions.Control.{call_kinds, push_of, self_of, dip_of}
use Rattle.rules_code.specs.instructions.Arguments.{Found, found, fault}
use Rattle.rules_code.specs.instructions.Rules.{Ruled, ruled, faulty, rule}
use Rattle.rules_code.specs.instructions.Forms.{Form, form_of}
use Rattle.rules_code.specs.instructions.Forms as f
use Rattle.rules_data.specs.values.Val.{Val, Vals, no_val, more_vals}
use Rattle.rules_data.specs.values.Val as v
use Rattle.rules_data.specs.values.Tickets.{tickets}
use Rattle.rules_data.specs.values.Literals.{read}
use Rattle.rules_data.specs.values.Weight.{weight}
use Rattle.rules_code.specs.steps.Changes.{burns}
use Rattle.rules_code.specs.steps.Step.{optional}
use Rattle.rules_code.specs.steps.Steps.{step}
use Rattle.rules_code.specs.steps.Costs.{kind_of, weight_of}
use Rattle.rules_code.specs.typing.Typing.{Typing, goes, fails, bad, Typer}
use Rattle.rules_code.specs.typing.Nodes.{tree_type}
use Rattle.rules_code.specs.evaluation.Surroundings.{Surroundings}
use Rattle.rules_code.specs.evaluation.Operations.{Operation, transfer, origination, event, Tally, new_contract}
use Rattle.rules_code.specs.evaluation.Outcome.{Outcome, stack, failed, stuck, Run, with_changes}
use Rattle.rules_code.specs.evaluation.Shapes.{on_top, on_truth as on_truth_value, on_option, on_union, on_list, on_call, on_capture}
use Rattle.rules_code.specs.evaluation.Branches.{chosen, if_run, if_none_run, if_left_run, if_cons_run, dip_run}
use Rattle.rules_code.specs.evaluation.Items.{items, mapped_items, with_items, rebuilt}
use Rattle.rules_code.specs.evaluation.Loops.{ending, turn_where, turns_run, left_turns_run, loop_run, loop_left_run, each_run, iter_run, map_each_run, map_run}
use Rattle.rules_code.specs.evaluation.Calls.{in_lambda, call_values, exec_run, applied, shallow_enough, small_enough, apply_run, fail_run}
use Rattle.rules_code.specs.evaluation.Contracts.{Viewed, viewed, contract_of}
use Rattle.rules_code.specs.evaluation.Issuing.{with_operation, issued_where, with_origination}
use Rattle.rules_code.specs.evaluation.Trying.{trial}
use Rattle.rules_code.specs.evaluation.Given.{on_found, on_goes, value_of, push_run, body_of, lambda_run, self_run, script_of, on_delegate, on_origination, create_run}
use Rattle.rules_code.specs.evaluation.Operating.{in_view, behind_view, view_run, operation_run}
use Rattle.rules_code.specs.evaluation.Straight.{minted_so_far, row_run, ruled_run}
use Rattle.rules_code.specs.evaluation.Evaluation.{Task, node, turns, left_turns, Arg, other, no_body, one_body, two_bodies, last_body, outside_views, result_kind, act, tree_run, trees_run, args_run, arg_run, task_run, level}
use Rattle.rules_code.specs.evaluation.Evaluation as evaluation
use Rattle.laws_code.specs.evaluation.Origins.{AreNew, Originates, OriginationsAreNew}
use Rattle.laws_code.proofs.evaluation_lemmas.Origins.{low_high, new_here, new_after, NewRun, new_only_if, new_ending, new_unless, new_charge, new_paid, new_block, new_finish}

-- ---- the stacks that are asked for

new_on_top : (g : ℕ) (m : Tally) (A : List Kind) (V : List Val) (p : Kind → List Kind → Val → List Val → Outcome) → ((a : Kind) (A : List Kind) (x : Val) (V : List Val) → Originates g m (p a A x V)) → Originates g m (on_top A V p)
new_on_top g m (a ∷ A) (x ∷ V) p n = n a A x V
new_on_top g m [] V p n = tt
new_on_top g m (a ∷ A) [] p n = tt

new_on_truth : (g : ℕ) (m : Tally) (A : List Kind) (V : List Val) (p : List Kind → Bool → List Val → Outcome) → ((A : List Kind) (b : Bool) (V : List Val) → Originates g m (p A b V)) → Originates g m (on_truth_value A V p)
new_on_truth g m (t.bool ∷ A) (v.truth b ∷ V) p n = n A b V
new_on_truth g m _ _ p n = tt

new_on_option : (g : ℕ) (m : Tally) (A : List Kind) (V : List Val) (p : List Kind → List Val → Outcome) (r : Kind → List Kind → Val → List Val → Outcome) → ((A : List Kind) (V : List Val) → Originates g m (p A V)) → ((a : Kind) (A : List Kind) (x : Val) (V : List Val) → Originates g m (r a A x V)) → Originates g m (on_option A V p r)
new_on_option g m (k.option a ∷ A) (v.nothing ∷ V) p r n h = n A V
new_on_option g m (k.option a ∷ A) (v.some x ∷ V) p r n h = h a A x V
new_on_option g m _ _ p r n h = tt

new_on_union : (g : ℕ) (m : Tally) (A : List Kind) (V : List Val) (p r : Kind → Kind → List Kind → Val → List Val → Outcome) → ((a b : Kind) (A : List Kind) (x : Val) (V : List Val) → Originates g m (p a b A x V)) → ((a b : Kind) (A : List Kind) (x : Val) (V : List Val) → Originates g m (r a b A x V)) → Originates g m (on_union A V p r)
new_on_union g m (k.or a b ∷ A) (v.left x ∷ V) p r n h = n a b A x V
new_on_union g m (k.or a b ∷ A) (v.right x ∷ V) p r n h = h a b A x V
new_on_union g m _ _ p r n h = tt

new_on_list : (g : ℕ) (m : Tally) (A : List Kind) (V : List Val) (p : Kind → List Kind → Val → Vals → List Val → Outcome) (r : List Kind → List Val → Outcome) → ((a : Kind) (A : List Kind) (x : Val) (xs : Vals) (V : List Val) → Originates g m (p a A x xs V)) → ((A : List Kind) (V : List Val) → Originates g m (r A V)) → Originates g m (on_list A V p r)
new_on_list g m (k.list a ∷ A) (v.list (more_vals x xs) ∷ V) p r n h = n a A x xs V
new_on_list g m (k.list a ∷ A) (v.list no_val ∷ V) p r n h = h A V
new_on_list g m _ _ p r n h = tt

new_on_call : (g : ℕ) (m : Tally) (A : List Kind) (V : List Val) (p : Kind → Kind → List Kind → Val → Trees → Bool → List Val → Outcome) → ((a r : Kind) (A : List Kind) (x : Val) (body : Trees) (self : Bool) (V : List Val) → Originates g m (p a r A x body self V)) → Originates g m (on_call A V p)
new_on_call g m (a ∷ k.lambda a' r ∷ A) (x ∷ v.lambda (seq body) self ∷ V) p n = new_only_if g m (same_kind a a') _ (n a r A x body self V)
new_on_call g m _ _ p n = tt

new_on_capture : (g : ℕ) (m : Tally) (A : List Kind) (V : List Val) (p : Kind → Kind → Kind → List Kind → Val → Trees → Bool → List Val → Outcome) → ((a b r : Kind) (A : List Kind) (x : Val) (body : Trees) (self : Bool) (V : List Val) → Originates g m (p a b r A x body self V)) → Originates g m (on_capture A V p)
new_on_capture g m (a ∷ k.lambda (k.pair a' b) r ∷ A) (x ∷ v.lambda (seq body) self ∷ V) p n = new_only_if g m (same_kind a a') _ (n a b r A x body self V)
new_on_capture g m _ _ p n = tt

new_on_found : {A : Type 0} (g : ℕ) (m : Tally) (x : Found A) (p : A → Outcome) → ((y : A) → Originates g m (p y)) → Originates g m (on_found x p)
new_on_found g m (found y) p n = n y
new_on_found g m (fault l) p n = tt

new_on_goes : (g : ℕ) (m : Tally) (u : Typing) (p : List Kind → Outcome) → ((B : List Kind) → Originates g m (p B)) → Originates g m (on_goes u p)
new_on_goes g m (goes B) p n = n B
new_on_goes g m fails p n = tt
new_on_goes g m (bad l) p n = tt

-- a stack with the tally as it is
same : (g : ℕ) (m : Tally) (A : List Kind) (V : List Val) → Originates g m (stack A V m)
same g m A V = new_here g m m A V refl (omega arith)

-- ---- issuing

-- one operation that is no origination, or the next origination
issued_one : (g : ℕ) (o : Operation) (m : Tally) (B : List Kind) (W : List Val) → (h : AreNew g m.originations m.originations (record { number = m.operations; operation = o } ∷ [])) → Originates g m (stack B W (with_operation m o))
issued_one g o m B W h = (record { number = m.operations; operation = o } ∷ [], refl, h)

new_issue : (b : Bool) (g : ℕ) (o : Operation) (m n : Tally) (p : Val → Tally → Outcome) → ((x : Val) → Originates g m (p x (with_operation n o))) → Originates g m (issued_where b o n p)
new_issue true g o m n p h = h (v.operation n.operations)
new_issue false g o m n p h = tt

-- ---- forms

module _ (e : Surroundings) (d : ℕ) where
  new_chosen : (b : Bool) (r s : Run) → NewRun r → NewRun s → (A : List Kind) (V : List Val) (m : Tally) → Originates e.group m (chosen b r s e d A V m)
  new_chosen true r s h g A V m = h e d A V m
  new_chosen false r s h g A V m = g e d A V m

  new_if : (r s : Run) → NewRun r → NewRun s → (A : List Kind) (V : List Val) (m : Tally) → Originates e.group m (if_run r s e d A V m)
  new_if r s h g A V m = new_on_truth e.group m A V _ (λ A b V. new_paid e _ m _ (λ n. new_chosen b r s h g A V n))

  new_if_none : (r s : Run) → NewRun r → NewRun s → (A : List Kind) (V : List Val) (m : Tally) → Originates e.group m (if_none_run r s e d A V m)
  new_if_none r s h g A V m = new_on_option e.group m A V _ _ (λ A V. new_paid e _ m _ (λ n. h e d A V n)) (λ a A x V. new_paid e _ m _ (λ n. g e d (a ∷ A) (x ∷ V) n))

  new_if_left : (r s : Run) → NewRun r → NewRun s → (A : List Kind) (V : List Val) (m : Tally) → Originates e.group m (if_left_run r s e d A V m)
  new_if_left r s h g A V m = new_on_union e.group m A V _ _ (λ a b A x V. new_paid e _ m _ (λ n. h e d (a ∷ A) (x ∷ V) n)) (λ a b A x V. new_paid e _ m _ (λ n. g e d (b ∷ A) (x ∷ V) n))

  new_if_cons : (r s : Run) → NewRun r → NewRun s → (A : List Kind) (V : List Val) (m : Tally) → Originates e.group m (if_cons_run r s e d A V m)
  new_if_cons r s h g A V m = new_on_list e.group m A V _ _ (λ a A x xs V. new_paid e _ m _ (λ n. h e d (a ∷ k.list a ∷ A) (x ∷ v.list xs ∷ V) n)) (λ A V. new_paid e _ m _ (λ n. g e d A V n))

  new_dip : (i : ℕ) (r : Run) → NewRun r → (A : List Kind) (V : List Val) (m : Tally) → Originates e.group m (dip_run i r e d A V m)
  new_dip i r h A V m = new_only_if e.group m (nat_le i (length A) && nat_le i (length V)) _ (new_paid e _ m _ (λ n. new_after e.group n _ _ (h e d (drop i A) (drop i V) n) (λ B W j. same e.group j (take i A ++ B) (take i V ++ W))))

  new_turn : (b : Bool) (again r : Run) → NewRun again → NewRun r → (A : List Kind) (V : List Val) (m : Tally) → Originates e.group m (turn_where b again r e d A V m)
  new_turn true again r h g A V m = new_paid e _ m _ (λ n. new_ending e.group n _ (t.bool ∷ A) _ (g e d A V n) (λ B W j. h e d B W j))
  new_turn false again r h g A V m = same e.group m A V

  new_turns : (again r : Run) → NewRun again → NewRun r → (A : List Kind) (V : List Val) (m : Tally) → Originates e.group m (turns_run again r e d A V m)
  new_turns again r h g A V m = new_on_truth e.group m A V _ (λ A b V. new_turn b again r h g A V m)

  new_left_turns : (again r : Run) → NewRun again → NewRun r → (A : List Kind) (V : List Val) (m : Tally) → Originates e.group m (left_turns_run again r e d A V m)
  new_left_turns again r h g A V m =
      new_on_union e.group m A V _ _ (λ a b A x V. new_paid e _ m _ (λ n. new_ending e.group n _ (k.or a b ∷ A) _ (g e d (a ∷ A) (x ∷ V) n) (λ B W j. h e d B W j))) (λ a b A x V. same e.group m (b ∷ A) (x ∷ V))

  new_loop : (again : Run) → NewRun again → (A : List Kind) (V : List Val) (m : Tally) → Originates e.group m (loop_run again e d A V m)
  new_loop again h A V m = new_on_truth e.group m A V _ (λ _ _ _. new_paid e _ m _ (λ n. h e d A V n))

  new_loop_left : (again : Run) → NewRun again → (A : List Kind) (V : List Val) (m : Tally) → Originates e.group m (loop_left_run again e d A V m)
  new_loop_left again h A V m = new_on_union e.group m A V _ _ (λ _ _ _ _ _. new_paid e _ m _ (λ n. h e d A V n)) (λ _ _ _ _ _. new_paid e _ m _ (λ n. h e d A V n))

  new_each : (xs : List Val) (r : Run) → NewRun r → (a : Kind) (A : List Kind) (V : List Val) (m : Tally) → Originates e.group m (each_run r a xs e d A V m)
  new_each [] r h a A V m = same e.group m A V
  new_each (x ∷ xs) r h a A V m = new_paid e _ m _ (λ n. new_ending e.group n _ A _ (h e d (a ∷ A) (x ∷ V) n) (λ B W j. new_each xs r h a B W j))

  new_iter : (r : Run) → NewRun r → (A : List Kind) (V : List Val) (m : Tally) → Originates e.group m (iter_run r e d A V m)
  new_iter r h A V m = new_on_top e.group m A V _ (λ c A x V. new_unless e.group m (items c x) _ (λ is. new_paid e _ m _ (λ n. new_each is.values r h is.kind A V n)))

  new_map_each : (xs ys : List Val) (r : Run) → NewRun r → (a b : Kind) (made : List Val → Val) (z : Kind) (A : List Kind) (V : List Val) (m : Tally) → Originates e.group m (map_each_run r a b made z ys xs e d A V m)
  new_map_each [] ys r h a b made z A V m = same e.group m (z ∷ A) (made ys ∷ V)
  new_map_each (x ∷ xs) ys r h a b made z A V m =
      new_paid e _ m _ (λ n. new_ending e.group n _ (b ∷ A) _ (h e d (a ∷ A) (x ∷ V) n) (λ B W j. new_on_top e.group j B W _ (λ _ B y W. new_map_each xs (ys ++ y ∷ []) r h a b made z B W j)))

  new_map : (result : Kind → List Kind → Option Kind) (r : Run) → NewRun r → (A : List Kind) (V : List Val) (m : Tally) → Originates e.group m (map_run result r e d A V m)
  new_map result r h A V m =
      new_on_top e.group m A V _ (λ z A x V. new_unless e.group m (mapped_items z x) _ (λ is. new_unless e.group m (result is.kind A) _ (λ b. new_paid e _ m _ (λ n. new_map_each is.values [] r h is.kind b (rebuilt x) (with_items z b) A V n))))

  new_exec : (again : Tree → Run) → ((x : Tree) → NewRun (again x)) → (A : List Kind) (V : List Val) (m : Tally) → Originates e.group m (exec_run again e d A V m)
  new_exec again h A V m =
      new_on_call e.group m A V _ (λ a r A x body self V. new_only_if e.group m (is_none (lambda_fault a r self (seq body))) _ (new_paid e _ m _ (λ n. new_ending e.group n _ (r ∷ []) _ (h (seq body) (in_lambda e) d (call_kinds a r self) (call_values x body self) n) (λ _ W j. same e.group j (r ∷ A) (W ++ V)))))

  new_shallow : (b : Bool) (m : Tally) (x : Tree) (p : Tree → Outcome) → ((y : Tree) → Originates e.group m (p y)) → Originates e.group m (shallow_enough b x p)
  new_shallow true m x p h = h x
  new_shallow false m x p h = tt

  new_small : (b : Bool) (m : Tally) (x : Tree) (p : Tree → Outcome) → ((y : Tree) → Originates e.group m (p y)) → Originates e.group m (small_enough b x p)
  new_small true m x p h = new_shallow (nat_le (depth x) 1000) m x p h
  new_small false m x p h = tt

  new_apply : (A : List Kind) (V : List Val) (m : Tally) → Originates e.group m (apply_run e d A V m)
  new_apply A V m =
      new_on_capture e.group m A V _ (λ a b r A x body self V. new_only_if e.group m (pushable a) _ (new_charge e.group e.prices _ (weight x) m _ (λ n. new_small (nat_le (size (applied a b r x (seq body) self)) 100000) n (applied a b r x (seq body) self) _ (λ y. same e.group n (k.lambda b r ∷ A) (v.lambda y false ∷ V)))))

  new_fail : (A : List Kind) (V : List Val) (m : Tally) → Originates e.group m (fail_run e d A V m)
  new_fail A V m = new_on_top e.group m A V _ (λ a A x V. new_only_if e.group m (pushable a) _ (new_paid e _ m _ (λ n. tt)))

  new_push : (ts : Trees) (u : Typing) (A : List Kind) (V : List Val) (m : Tally) → Originates e.group m (push_run ts u e d A V m)
  new_push ts u A V m =
      new_on_found e.group m (push_of ts) _ (λ w. new_unless e.group m (value_of (read w.kind w.location w.literal)) _ (λ x. new_on_goes e.group m u _ (λ B. new_charge e.group e.prices _ (weight x) m _ (λ n. same e.group n B (x ∷ V)))))

  new_lambda : (kind : Priced) (self : Bool) (ts : Trees) (u : Typing) (A : List Kind) (V : List Val) (m : Tally) → Originates e.group m (lambda_run kind self ts u e d A V m)
  new_lambda kind self ts u A V m = new_unless e.group m (body_of ts) _ (λ body. new_on_goes e.group m u _ (λ B. new_paid e kind m _ (λ n. same e.group n B (v.lambda body self ∷ V))))

  new_self : (annots : List (List ℕ)) (ts : Trees) (u : Typing) (A : List Kind) (V : List Val) (m : Tally) → Originates e.group m (self_run annots ts u e d A V m)
  new_self annots ts u A V m = new_on_found e.group m (self_of annots ts) _ (λ name. new_on_goes e.group m u _ (λ B. new_paid e _ m _ (λ n. same e.group n B (v.bytes (spelled_address (contract_place e.environment.own) name) ∷ V))))

  new_delegate : (m : Tally) (x : Val) (p : Option (List ℕ) → Outcome) → ((y : Option (List ℕ)) → Originates e.group m (p y)) → Originates e.group m (on_delegate x p)
  new_delegate m v.nothing p h = h None
  new_delegate m (v.some (v.bytes b)) p h = h (Some b)
  new_delegate m _ p h = tt

  new_origination : (m : Tally) (V : List Val) (p : Option (List ℕ) → ℕ → Val → List Val → Outcome) → ((y : Option (List ℕ)) (amount : ℕ) (x : Val) (V : List Val) → Originates e.group m (p y amount x V)) → Originates e.group m (on_origination V p)
  new_origination m (x ∷ v.number (pos amount) ∷ y ∷ V) p h = new_delegate m x (λ delegate. p delegate amount y V) (λ delegate. h delegate amount y V)
  new_origination m _ p h = tt

  -- the next number is taken
  new_create : (ts : Trees) (u : Typing) (A : List Kind) (V : List Val) (m : Tally) → Originates e.group m (create_run ts u e d A V m)
  new_create ts u A V m =
      new_unless e.group m (script_of ts) _ (λ script. new_on_goes e.group m u _ (λ B. new_origination m V _ (λ delegate amount x V. new_paid e _ m _ (λ n.
      new_issue (nat_lt n.operations 65535) e.group (origination delegate amount script x (new_contract e.group n.originations)) n (with_origination n) _ (λ o.
      (record { number = n.operations; operation = origination delegate amount script x (new_contract e.group n.originations) } ∷ [], refl, (n.originations, omega arith, refl, omega arith)))))))

  -- ---- instructions without bodies

  module _ (again : Tree → Run) (h : (x : Tree) → NewRun (again x)) where
    -- of what a view issued nothing is left, but for the counts
    view_end : (m : Tally) (o : Outcome) (b : Kind) (A : List Kind) (V : List Val) → Originates e.group m o → Originates e.group m (ending o (b ∷ []) (λ B W n. on_top B W (λ _ _ y _. stack A (v.some y ∷ V) (behind_view m n))))
    view_end m (stack C W n) b A V h =
        new_only_if e.group m (same_kinds C (b ∷ [])) _ (new_on_top e.group m C W _ (λ _ _ y _. new_here e.group m (behind_view m n) A (v.some y ∷ V) refl (low_high e.group m.originations n.originations h.0 h.2)))
    view_end m (failed x) b A V h = tt
    view_end m stuck b A V h = tt

    new_view : (a b : Kind) (w : Option Viewed) (x : Val) (A : List Kind) (V : List Val) (m : Tally) → Originates e.group m (view_run again e d a b w x A V m)
    new_view a b None x A V m = new_here e.group m (with_changes m (burns (tickets x))) A (v.nothing ∷ V) refl (omega arith)
    new_view a b (Some w) x A V m = view_end m _ b A V (h w.body (in_view e w) d (k.pair a w.storage ∷ []) (v.both x w.contract.storage ∷ []) m)

    new_operation : (row : OperationRow) (B : List Kind) (V : List Val) (m : Tally) → Originates e.group m (operation_run again row e d B V m)
    new_operation i.address B (v.bytes b ∷ V) m = same e.group m B (v.bytes b ∷ V)
    new_operation i.implicit_account B (v.bytes b ∷ V) m = same e.group m B (v.bytes (implicit_place b) ∷ V)
    new_operation (i.contract name a) B (v.bytes b ∷ V) m = same e.group m B (optional (option_map v.bytes (contract_of e.contract_at name a b)) ∷ V)
    new_operation i.transfer_tokens B (x ∷ v.number (pos amount) ∷ v.bytes b ∷ V) m =
        new_issue (nat_lt m.operations 65535) e.group (transfer x amount b) m m (λ o m. stack B (o ∷ V) m) (λ o. issued_one e.group (transfer x amount b) m B (o ∷ V) (omega arith))
    new_operation (i.emit tag a) B (x ∷ V) m =
        new_issue (nat_lt m.operations 65535) e.group (event tag a x) m m (λ o m. stack B (o ∷ V) m) (λ o. issued_one e.group (event tag a x) m B (o ∷ V) (omega arith))
    new_operation (i.view name a b) B (x ∷ v.bytes b' ∷ V) m = new_view a b (viewed e.contract_at name a b b') x B V m
    new_operation _ B _ m = tt

    new_row : (row : Straight) (B : List Kind) (V : List Val) (m : Tally) → Originates e.group m (row_run again row e d B V m)
    new_row (on_operations row) B V m = new_operation row B V m
    new_row (on_stack row) B V m = new_finish e.group _ B m
    new_row (on_pairs row) B V m = new_finish e.group _ B m
    new_row (on_unions row) B V m = new_finish e.group _ B m
    new_row (on_collections row) B V m = new_finish e.group _ B m
    new_row (on_numbers row) B V m = new_finish e.group _ B m
    new_row (on_truth row) B V m = new_finish e.group _ B m
    new_row (on_text row) B V m = new_finish e.group _ B m
    new_row (on_hashes row) B V m = new_finish e.group _ B m
    new_row (on_environment row) B V m = new_finish e.group (step e.environment (minted_so_far e m) (trial e) (on_environment row) V) B m
    new_row (on_tickets row) B V m = new_finish e.group _ B m

    new_ruled : (x : Ruled) (A : List Kind) (V : List Val) (m : Tally) → Originates e.group m (ruled_run again x e d A V m)
    new_ruled (ruled row B) A V m = new_charge e.group e.prices (kind_of row) (weight_of row V) m _ (λ n. new_row row B V n)
    new_ruled (faulty l) A V m = tt

-- ---- arguments

abbrev NewArg : Arg → Type 0
NewArg (evaluation.body ts r) = NewRun r
NewArg other = Unit {0}

abbrev NewArgs : List Arg → Type 0
NewArgs [] = Unit {0}
NewArgs (x ∷ args) = NewArg x × NewArgs args

module _ (g : ℕ) (m : Tally) where
  new_no_body : (args : List Arg) (o : Outcome) → Originates g m o → Originates g m (no_body args o)
  new_no_body [] o h = h
  new_no_body (x ∷ args) o h = tt

  new_one_body : (args : List Arg) (p : Trees → Run → Outcome) → NewArgs args → ((ts : Trees) (r : Run) → NewRun r → Originates g m (p ts r)) → Originates g m (one_body args p)
  new_one_body [] p h n = tt
  new_one_body (other ∷ args) p h n = tt
  new_one_body (evaluation.body ts r ∷ []) p h n = n ts r h.0
  new_one_body (evaluation.body ts r ∷ x ∷ args) p h n = tt

  new_two_bodies : (args : List Arg) (p : Run → Run → Outcome) → NewArgs args → ((r s : Run) → NewRun r → NewRun s → Originates g m (p r s)) → Originates g m (two_bodies args p)
  new_two_bodies [] p h n = tt
  new_two_bodies (other ∷ args) p h n = tt
  new_two_bodies (evaluation.body ts r ∷ []) p h n = tt
  new_two_bodies (evaluation.body ts r ∷ other ∷ args) p h n = tt
  new_two_bodies (evaluation.body ts r ∷ evaluation.body us s ∷ []) p h n = n r s h.0 h.1.0
  new_two_bodies (evaluation.body ts r ∷ evaluation.body us s ∷ x ∷ args) p h n = tt

  new_last_body : (args : List Arg) (p : Run → Outcome) → NewArgs args → ((r : Run) → NewRun r → Originates g m (p r)) → Originates g m (last_body args p)
  new_last_body [] p h n = tt
  new_last_body (other ∷ []) p h n = tt
  new_last_body (evaluation.body ts r ∷ []) p h n = n r h.0
  new_last_body (other ∷ y ∷ args) p h n = new_last_body (y ∷ args) p h.1 n
  new_last_body (evaluation.body ts r ∷ y ∷ args) p h n = new_last_body (y ∷ args) p h.1 n

  new_outside : (c : Context) (o : Outcome) → Originates g m o → Originates g m (outside_views c o)
  new_outside (main es) o h = h
  new_outside view o h = tt
  new_outside lambda o h = h

-- ---- nodes

module _ (again : Task → Run) (h : (x : Task) → NewRun (again x)) where
  new_act : (form : Form) (name : Option Primitive) (annots : List (List ℕ)) (ts : Trees) (typing : Typer) (args : List Arg) → NewArgs args → NewRun (act again form name annots ts typing args)
  new_act f.straight name annots ts typing args n e d A V m = new_ruled e d _ (λ x. h (node x)) (rule name annots ts A) A V m
  new_act f.transfer name annots ts typing args n e d A V m = new_outside e.group m e.context _ (new_ruled e d _ (λ x. h (node x)) (rule name annots ts A) A V m)
  new_act f.push name annots ts typing args n e d A V m = new_push e d ts (typing e.context A) A V m
  new_act f.dip name annots ts typing args n e d A V m = new_on_found e.group m (dip_of ts) _ (λ i. new_last_body e.group m args _ n (λ r p. new_dip e d i r p A V m))
  new_act f.lambda name annots ts typing args n e d A V m = new_lambda e d _ false ts (typing e.context A) A V m
  new_act f.lambda_rec name annots ts typing args n e d A V m = new_lambda e d _ true ts (typing e.context A) A V m
  new_act f.exec name annots ts typing args n e d A V m = new_no_body e.group m args _ (new_exec e d _ (λ x. h (node x)) A V m)
  new_act f.apply name annots ts typing args n e d A V m = new_no_body e.group m args _ (new_apply e d A V m)
  new_act f.if_bool name annots ts typing args n e d A V m = new_two_bodies e.group m args _ n (λ r s p q. new_if e d r s p q A V m)
  new_act f.if_none name annots ts typing args n e d A V m = new_two_bodies e.group m args _ n (λ r s p q. new_if_none e d r s p q A V m)
  new_act f.if_left name annots ts typing args n e d A V m = new_two_bodies e.group m args _ n (λ r s p q. new_if_left e d r s p q A V m)
  new_act f.if_cons name annots ts typing args n e d A V m = new_two_bodies e.group m args _ n (λ r s p q. new_if_cons e d r s p q A V m)
  new_act f.loop name annots ts typing args n e d A V m = new_one_body e.group m args _ n (λ us r p. new_loop e d _ (h (turns us)) A V m)
  new_act f.loop_left name annots ts typing args n e d A V m = new_one_body e.group m args _ n (λ us r p. new_loop_left e d _ (h (left_turns us)) A V m)
  new_act f.iter name annots ts typing args n e d A V m = new_one_body e.group m args _ n (λ us r p. new_iter e d r p A V m)
  new_act f.map name annots ts typing args n e d A V m = new_one_body e.group m args _ n (λ us r p. new_map e d (result_kind us e.context) r p A V m)
  new_act f.failwith name annots ts typing args n e d A V m = new_no_body e.group m args _ (new_fail e d A V m)
  new_act f.never name annots ts typing args n e d A V m = tt
  new_act f.self name annots ts typing args n e d A V m = new_self e d annots ts (typing e.context A) A V m
  new_act f.create_contract name annots ts typing args n e d A V m = new_create e d ts (typing e.context A) A V m

  mutual
    new_tree : (x : Tree) → NewRun (tree_run again x)
    new_tree (int z) e d A V m = tt
    new_tree (str z) e d A V m = tt
    new_tree (bytes z) e d A V m = tt
    new_tree (prim name annots ts) e d A V m = new_act (form_of (primitive_of_name name)) (primitive_of_name name) annots ts (tree_type (prim name annots ts)) _ (new_args ts) e d A V m
    new_tree (seq ts) e d A V m = new_block (trees_run again ts) (λ e d A V m. new_trees ts e d A V m) e d A V m

    new_trees : (ts : Trees) → NewRun (trees_run again ts)
    new_trees none e d A V m = same e.group m A V
    new_trees (more t ts) e d A V m = new_after e.group m _ _ (new_tree t e d A V m) (λ B W n. new_trees ts e d B W n)

    new_args : (ts : Trees) → NewArgs (args_run again ts)
    new_args none = tt
    new_args (more t ts) = (new_arg t, new_args ts)

    new_arg : (x : Tree) → NewArg (arg_run again x)
    new_arg (int z) = tt
    new_arg (str z) = tt
    new_arg (bytes z) = tt
    new_arg (prim name annots ts) = tt
    new_arg (seq ts) = λ e d A V m. new_block (trees_run again ts) (λ e d A V m. new_trees ts e d A V m) e d A V m

  new_task : (x : Task) → NewRun (task_run again x)
  new_task (node t) e d A V m = new_tree t e d A V m
  new_task (turns ts) e d A V m = new_turns e d _ _ (h (turns ts)) (new_block (trees_run again ts) (λ e d A V m. new_trees ts e d A V m)) A V m
  new_task (left_turns ts) e d A V m = new_left_turns e d _ _ (h (left_turns ts)) (new_block (trees_run again ts) (λ e d A V m. new_trees ts e d A V m)) A V m

new_level : (i : ℕ) (x : Task) → NewRun (level i x)
new_level zero x e d A V m = tt
new_level (suc i) x e d A V m = new_task (level i) (new_level i) x e d A V m

pub originations_are_new : OriginationsAreNew
originations_are_new t e d A V m = new_level (suc m.gas) (node t) e d A V m
