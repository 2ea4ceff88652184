-- Calls, arguments and instructions without bodies over runs that advance.
use Rattle.std.proofs.Common.{ℕ, Bool, true, false, List, [], ◌∷◌, Some, None}
use Rattle.std.specs.Prelude.{pos, is_none}
use Rattle.std.specs.declared.option.Option.{Option}
use Rattle.std.proofs.Common.{le_refl}
use Rattle.rules_text.specs.nodes.Tree.{Tree, seq, Trees}
use Rattle.rules_data.specs.declared.gas.Kind.{Kind as Priced}
use Rattle.rules_data.specs.types.Kind.{Kind}
use Rattle.rules_data.specs.types.Attributes.{pushable}
use Rattle.rules_code.specs.instructions.Straight.{Straight, OperationRow, on_stack, on_pairs, on_unions, on_collections, on_numbers, on_truth, on_text, on_hashes, on_environment, on_operations, on_tickets}
use Rattle.rules_code.specs.instructions.Straight as i
use Rattle.rules_code.specs.instructions.Control.{call_kinds, push_of, self_of}
use Rattle.rules_code.specs.instructions.Rules.{Ruled, ruled, faulty}
use Rattle.rules_data.specs.values.Val.{Val}
use Rattle.rules_data.specs.values.Val as v
use Rattle.rules_data.specs.values.Literals.{read}
use Rattle.rules_data.specs.values.Weight.{weight}
use Rattle.rules_code.specs.steps.Steps.{step}
use Rattle.rules_code.specs.steps.Costs.{kind_of, weight_of}
use Rattle.rules_code.specs.typing.Typing.{Typing}
use Rattle.rules_code.specs.typing.Literals.{lambda_fault}
use Rattle.rules_code.specs.evaluation.Surroundings.{Surroundings}
use Rattle.rules_code.specs.evaluation.Operations.{Tally}
use Rattle.rules_code.specs.evaluation.Outcome.{Outcome, Run}
use Rattle.rules_code.specs.evaluation.Calls.{in_lambda, call_values, exec_run, applied, shallow_enough, small_enough, apply_run, fail_run}
use Rattle.rules_code.specs.evaluation.Contracts.{Viewed, viewed}
use Rattle.rules_code.specs.evaluation.Trying.{trial}
use Rattle.rules_code.specs.evaluation.Given.{value_of, push_run, body_of, lambda_run, self_run, script_of, on_delegate, on_origination, create_run}
use Rattle.rules_code.specs.evaluation.Operating.{in_view, view_run, operation_run}
use Rattle.rules_code.specs.evaluation.Straight.{minted_so_far, row_run, ruled_run}
use Rattle.laws_world.specs.operations.NewOperations.{Advances, AdvancesTo}
use Rattle.laws_world.proofs.operations.Advances.{advances_nothing, advances_view, to_only_if, to_ending_from, to_ending, to_unless, to_charge, to_paid, to_finish, to_issue, to_create, AdvancingRun}
use Rattle.laws_world.proofs.operations.AdvancingStacks.{to_top, to_call, to_capture, to_found, to_goes}

-- ---- calls

-- nodes that are evaluated
abbrev pub AdvancingNodes : (Tree → Run) → Type 0
AdvancingNodes p = (x : Tree) → AdvancingRun (p x)

to_shallow : (g : ℕ) (s : Tally) (b : Bool) (x : Tree) (p : Tree → Outcome) → ((y : Tree) → AdvancesTo g s (p y)) →
    AdvancesTo g s (shallow_enough b x p)
to_shallow g s true x p n = n x
to_shallow g s false x p n = tt

to_small : (g : ℕ) (s : Tally) (b : Bool) (x : Tree) (p : Tree → Outcome) → ((y : Tree) → AdvancesTo g s (p y)) →
    AdvancesTo g s (small_enough b x p)
to_small g s true x p n = to_shallow g s _ x p n
to_small g s false x p n = tt

module _ (e : Surroundings) (d : ℕ) (s m : Tally) (a : Advances e.group s m) where
  pub to_exec : (A : List Kind) (V : List Val) (p : Tree → Run) → AdvancingNodes p → AdvancesTo e.group s (exec_run p e d A V m)
  to_exec A V p n =
      to_call e.group s A V _ (λ b r A x body self V. to_only_if e.group s (is_none (lambda_fault b r self (seq body))) _
      (to_paid e.group s m a e _ _ (λ j c.
      to_ending e.group s _ (r ∷ []) _ (n (seq body) (in_lambda e) d (call_kinds b r self) (call_values x body self) s j c)
      (λ B W l i. i))))

  pub to_apply : (A : List Kind) (V : List Val) → AdvancesTo e.group s (apply_run e d A V m)
  to_apply A V =
      to_capture e.group s A V _ (λ b c r A x body self V. to_only_if e.group s (pushable b) _
      (to_charge e.group s m a e.prices _ (weight x) _ (λ j i. to_small e.group s _ (applied b c r x (seq body) self) _
      (λ y. i))))

  pub to_fail : (A : List Kind) (V : List Val) → AdvancesTo e.group s (fail_run e d A V m)
  to_fail A V = to_top e.group s A V _ (λ b A x V. to_only_if e.group s (pushable b) _ (to_paid e.group s m a e _ _ (λ j c. tt)))

  -- ---- what is written in arguments

  pub to_push : (ts : Trees) (u : Typing) (A : List Kind) (V : List Val) → AdvancesTo e.group s (push_run ts u e d A V m)
  to_push ts u A V =
      to_found e.group s (push_of ts) _ (λ w. to_unless e.group s (value_of (read w.kind w.location w.literal)) _
      (λ x. to_goes e.group s u _ (λ B. to_charge e.group s m a e.prices _ (weight x) _ (λ j c. c))))

  pub to_lambda : (kind : Priced) (self : Bool) (ts : Trees) (u : Typing) (A : List Kind) (V : List Val) →
      AdvancesTo e.group s (lambda_run kind self ts u e d A V m)
  to_lambda kind self ts u A V = to_unless e.group s (body_of ts) _
      (λ body. to_goes e.group s u _ (λ B. to_paid e.group s m a e kind _ (λ j c. c)))

  pub to_self : (annots : List (List ℕ)) (ts : Trees) (u : Typing) (A : List Kind) (V : List Val) →
      AdvancesTo e.group s (self_run annots ts u e d A V m)
  to_self annots ts u A V = to_found e.group s (self_of annots ts) _
      (λ name. to_goes e.group s u _ (λ B. to_paid e.group s m a e _ _ (λ j c. c)))

  to_delegate : (x : Val) (p : Option (List ℕ) → Outcome) → ((y : Option (List ℕ)) → AdvancesTo e.group s (p y)) →
      AdvancesTo e.group s (on_delegate x p)
  to_delegate v.nothing p n = n None
  to_delegate (v.some (v.bytes b)) p n = n (Some b)
  to_delegate _ p n = tt

  to_origination : (V : List Val) (p : Option (List ℕ) → ℕ → Val → List Val → Outcome) →
      ((y : Option (List ℕ)) (amount : ℕ) (x : Val) (V : List Val) → AdvancesTo e.group s (p y amount x V)) →
      AdvancesTo e.group s (on_origination V p)
  to_origination (x ∷ v.number (pos amount) ∷ y ∷ V) p n = to_delegate x (λ delegate. p delegate amount y V)
      (λ delegate. n delegate amount y V)
  to_origination _ p n = tt

  pub to_create_contract : (ts : Trees) (u : Typing) (A : List Kind) (V : List Val) →
      AdvancesTo e.group s (create_run ts u e d A V m)
  to_create_contract ts u A V =
      to_unless e.group s (script_of ts) _ (λ script. to_goes e.group s u _
      (λ B. to_origination V _ (λ delegate amount x V. to_paid e.group s m a e _ _ (λ j c.
      to_create e.group s j c delegate amount script x _ (λ o n i. i)))))

-- ---- instructions without bodies

module _ (p : Tree → Run) (n : AdvancingNodes p) (e : Surroundings) (d : ℕ) (s m : Tally) (a : Advances e.group s m) where
  to_view : (b c : Kind) (w : Option Viewed) (x : Val) (A : List Kind) (V : List Val) →
      AdvancesTo e.group s (view_run p e d b c w x A V m)
  to_view b c None x A V = record {
    issued = a.issued;
    behind = a.behind;
    turns = a.turns;
    counted = a.counted;
    limited =
        a.limited;
  }
  to_view b c (Some w) x A V =
      to_ending_from e.group s m _ (c ∷ []) _ (n w.body (in_view e w) d _ _ m m (advances_nothing e.group m))
      (λ B W l i. to_top e.group s B W _ (λ _ _ y _. advances_view e.group s m l a i))

  to_operation : (row : OperationRow) (B : List Kind) (V : List Val) → AdvancesTo e.group s (operation_run p row e d B V m)
  to_operation i.address B (v.bytes b ∷ V) = a
  to_operation i.implicit_account B (v.bytes b ∷ V) = a
  to_operation (i.contract name b) B (v.bytes b' ∷ V) = a
  to_operation i.transfer_tokens B (x ∷ v.number (pos amount) ∷ v.bytes b ∷ V) = to_issue e.group s m a _ _
      (le_refl m.originations) (λ o j c. c)
  to_operation (i.emit tag b) B (x ∷ V) = to_issue e.group s m a _ _ (le_refl m.originations) (λ o j c. c)
  to_operation (i.view name b c) B (x ∷ v.bytes b' ∷ V) = to_view b c (viewed e.contract_at name b c b') x B V
  to_operation _ B _ = tt

  to_row : (row : Straight) (B : List Kind) (V : List Val) → AdvancesTo e.group s (row_run p row e d B V m)
  to_row (on_operations row) B V = to_operation row B V
  to_row (on_stack row) B V = to_finish e.group s m a _ B
  to_row (on_pairs row) B V = to_finish e.group s m a _ B
  to_row (on_unions row) B V = to_finish e.group s m a _ B
  to_row (on_collections row) B V = to_finish e.group s m a _ B
  to_row (on_numbers row) B V = to_finish e.group s m a _ B
  to_row (on_truth row) B V = to_finish e.group s m a _ B
  to_row (on_text row) B V = to_finish e.group s m a _ B
  to_row (on_hashes row) B V = to_finish e.group s m a _ B
  to_row (on_environment row) B V = to_finish e.group s m a (step e.environment (minted_so_far e m) (trial e)
      (on_environment row) V) B
  to_row (on_tickets row) B V = to_finish e.group s m a _ B

pub to_ruled : (p : Tree → Run) → AdvancingNodes p → (e : Surroundings) (d : ℕ) (s m : Tally) → Advances e.group s m →
    (x : Ruled) (A : List Kind) (V : List Val) → AdvancesTo e.group s (ruled_run p x e d A V m)
to_ruled p n e d s m a (ruled row B) A V = to_charge e.group s m a e.prices (kind_of row) (weight_of row V) _
    (λ j c. to_row p n e d s j c row B V)
to_ruled p n e d s m a (faulty l) A V = tt
