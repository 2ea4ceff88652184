-- Instructions on contracts and operations.
use Rattle.std.proofs.Common.{◌≡◌, ℕ, ◌≤◌, Bool, true, false, ◌&&◌, List, [], ◌∷◌, ◌++◌, Option, Some, None, refl, sym, ap, ◌∙◌, subst, append-nil, arith}
use Rattle.std.specs.Prelude.{pos, ◌+ℤ◌, option_map}
use Rattle.std.specs.List.{flat_map}
use Rattle.rules_text.specs.nodes.Tree.{Tree}
use Rattle.rules_data.specs.forms.Spelling.{implicit_place}
use Rattle.rules_data.specs.types.Kind.{Kind}
use Rattle.rules_data.specs.types.Kind as k
use Rattle.rules_data.specs.types.Attributes.{pushable, packable}
use Rattle.rules_code.specs.instructions.Types as t
use Rattle.rules_code.specs.instructions.Same.{same_kind}
use Rattle.rules_code.specs.instructions.Straight.{Straight, OperationRow, on_stack, on_pairs, on_unions, on_collections, on_numbers, on_truth, on_text, on_hashes, on_environment, on_operations, on_tickets}
use Rattle.rules_code.specs.instructions.Straight as i
use Rattle.rules_code.specs.instructions.Change.{Change, after, makes}
use Rattle.rules_code.specs.instructions.Change as c
use Rattle.rules_code.specs.instructions.Effect.{change}
use Rattle.rules_code.specs.instructions.OtherChanges.{operation_change}
use Rattle.rules_code.specs.instructions.Rules.{Ruled, ruled, faulty}
use Rattle.rules_data.specs.values.Val.{Val}
use Rattle.rules_data.specs.values.Val as v
use Rattle.rules_data.specs.values.Tickets.{Identity, tickets}
use Rattle.rules_code.specs.steps.Changes.{burns, amount_among, amount_in}
use Rattle.rules_code.specs.steps.Step.{optional}
use Rattle.rules_code.specs.steps.Steps.{step}
use Rattle.rules_code.specs.steps.Costs.{kind_of, weight_of}
use Rattle.rules_code.specs.evaluation.Surroundings.{Surroundings}
use Rattle.rules_code.specs.evaluation.Operations.{Tally, transfer, event}
use Rattle.rules_code.specs.evaluation.Outcome.{Outcome, stack, Run, with_changes, finish}
use Rattle.rules_code.specs.evaluation.Shapes.{on_top}
use Rattle.rules_code.specs.evaluation.Contracts.{contract_of, Viewed, viewed}
use Rattle.rules_code.specs.evaluation.Trying.{trial}
use Rattle.rules_code.specs.evaluation.Operating.{in_view, behind_view, view_run, operation_run}
use Rattle.rules_code.specs.evaluation.Straight.{minted_so_far, row_run, ruled_run}
use Rattle.laws_tickets.specs.totals.Agreement.{Agrees, SeesAgreement}
use Rattle.laws_tickets.specs.totals.Totals.{amount_on, told}
use Rattle.laws_tickets.proofs.totals.ForCallers.{Balances, on_cons, on_one, balanced_total, discard_balances, back_agrees, nothing_packed, IsFine, IsRule, KeepsStep, IsViewed, some_is, viewed_is}
use Rattle.laws_tickets.proofs.steps.ForCallers.{step_keeps}
use Rattle.laws_tickets.proofs.runs_lemmas.Stands.{Aim, Stands, Keeps, KeepsRun, restands, here, stands_here, keeps_ending, keeps_charge, keeps_finish, numbered_more, keeps_issue}

-- the outcome on the types after, where there are such
abbrev KeepsAfter : Aim → Option Change → (List Kind → Outcome) → Type 0
KeepsAfter p None go = Unit {0}
KeepsAfter p (Some d) go = Keeps p (go (after d))

after_where : (p : Aim) (b : Bool) (d : Option Change) (go : List Kind → Outcome) → (b ≡ true → KeepsAfter p d go) →
    KeepsAfter p (c.where_true b d) go
after_where p true d go h = h refl
after_where p false d go h = tt

-- ---- VIEW

module _ (again : Tree → Run) (h : (x : Tree) → KeepsRun (again x)) (e : Surroundings) (d : ℕ) (p : Aim) (sees : SeesAgreement e)
    (m : Tally) where
  discarded_here : (A : List Kind) (a b : Kind) (x : Val) (address : List ℕ) (V : List Val) →
      Stands p (a ∷ t.address ∷ A) (x ∷ v.bytes address ∷ V) m →
      Stands p (k.option b ∷ A) (v.nothing ∷ V) (with_changes m (burns (tickets x)))
  discarded_here A a b x address V s = record {
    agree = (tt, s.agree.1.1);
    same = λ id.
        balanced_total id (x ∷ v.bytes address ∷ V) (v.nothing ∷ V) m (burns (tickets x)) (gone x address V) ∙ s.same id;
    numbers = s.numbers;
    many = s.many;
  }
    where
      gone : (x : Val) (address : List ℕ) (V : List Val) → Balances (x ∷ v.bytes address ∷ V) (v.nothing ∷ V) (burns (tickets x))
      gone x address V =
          subst (λ ts. Balances (x ∷ v.bytes address ∷ V) (v.nothing ∷ V) (burns ts)) (append-nil (tickets x))
          (discard_balances (x ∷ v.bytes address ∷ V) (v.nothing ∷ V) (x ∷ [])
          (λ id. on_cons id x V ∙ ap (λ z. z +ℤ amount_on id V) (sym (on_one id x))))

  behind_here : (A : List Kind) (a b : Kind) (x y : Val) (address : List ℕ) (V : List Val) (n : Tally) → packable a ≡ true →
      packable b ≡ true → Stands p (a ∷ t.address ∷ A) (x ∷ v.bytes address ∷ V) m →
      Agrees b y → m.operations ≤ n.operations → Stands p (k.option b ∷ A) (v.some y ∷ V) (behind_view m n)
  behind_here A a b x y address V n f g s q le = record {
    agree = (q, s.agree.1.1);
    same = λ id.
        ap (λ ts. amount_among id (ts ++ flat_map tickets V) +ℤ told id m)
        (nothing_packed b y g q ∙ sym (nothing_packed a x f s.agree.0)) ∙ s.same id;
    numbers = λ h. numbered_more m.operations n.operations m.issued le (s.numbers h);
    many = omega (arith, le, s.many);
  }

  view_keeps : (A : List Kind) (a b : Kind) (o : Option Viewed) (x : Val) (address : List ℕ) (V : List Val) → packable b ≡ true →
      ((w : Viewed) → o ≡ Some w → IsViewed e.contract_at a w) → Stands p (a ∷ t.address ∷ A) (x ∷ v.bytes address ∷ V) m →
      Keeps p (view_run again e d a b o x (k.option b ∷ A) V m)
  view_keeps A a b None x address V g l s = discarded_here A a b x address V s
  view_keeps A a b (Some w) x address V g l s =
      let r : IsViewed e.contract_at a w = l w refl in
      let U : List Val = v.both x w.contract.storage ∷ [] in
      keeps_ending (here U m) p _ (b ∷ []) _
      (h w.body (in_view e w) d (k.pair a w.storage ∷ []) U m (here U m) sees
      (stands_here (k.pair a w.storage ∷ []) U m (
        (
          s.agree.0,
          subst (λ k. Agrees k w.contract.storage) (sym r.storage)
              (sees r.hash w.contract r.types r.contract r.outlined),
        ),
        tt,
      )))
      (λ C W n f q. by_top C W n f q)
    where
      by_top : (C : List Kind) (W : List Val) (n : Tally) → C ≡ b ∷ [] →
          Stands (here (v.both x w.contract.storage ∷ []) m) C W n →
          Keeps p (on_top C W (λ _ _ y _. stack (k.option b ∷ A) (v.some y ∷ V) (behind_view m n)))
      by_top [] W n f q = absurd cc
      by_top (z ∷ C) [] n f q = tt
      by_top (z ∷ C) (y ∷ W) n f q =
          let i : z ≡ b = cc in
          behind_here A a b x y address V n (l w refl).input g s (subst (λ k. Agrees k y) i q.agree.0) q.many

  -- ---- all

  handed : (x : Val) (U V : List Val) → flat_map tickets U ≡ flat_map tickets (x ∷ V) → (id : Identity) →
      amount_on id U ≡ amount_in id x +ℤ amount_on id V
  handed x U V f id = ap (amount_among id) f ∙ on_cons id x V

  contract_keeps : (a : Kind) (A : List Kind) (b : List ℕ) (V : List Val) (o : Option (List ℕ)) →
      Stands p (t.address ∷ A) (v.bytes b ∷ V) m → Stands p (k.option (k.contract a) ∷ A) (optional (option_map v.bytes o) ∷ V) m
  contract_keeps a A b V None s = restands (k.option (k.contract a) ∷ A) (v.nothing ∷ V) (tt, s.agree.1) refl s
  contract_keeps a A b V (Some x) s = restands (k.option (k.contract a) ∷ A) (v.some (v.bytes x) ∷ V) (tt, s.agree.1) refl s

  operation_keeps : (r : OperationRow) (A : List Kind) (V : List Val) → IsFine (on_operations r) → Stands p A V m →
      KeepsAfter p (operation_change r A) (λ B. operation_run again r e d B V m)
  operation_keeps i.address (k.contract a ∷ A) (v.bytes b ∷ V) f s =
      restands (t.address ∷ A) (v.bytes b ∷ V) (refl, s.agree.1) refl s
  operation_keeps i.implicit_account (t.key_hash ∷ A) (v.bytes b ∷ V) f s =
      restands (k.contract t.unit ∷ A) (v.bytes (implicit_place b) ∷ V) (tt, s.agree.1) refl s
  operation_keeps (i.contract name a) (t.address ∷ A) (v.bytes b ∷ V) f s =
      contract_keeps a A b V (contract_of e.contract_at name a b) s
  operation_keeps i.transfer_tokens (a ∷ t.mutez ∷ k.contract b ∷ A) (x ∷ v.number (pos n) ∷ v.bytes u ∷ V) f s =
      after_where p (same_kind a b) (makes k.operation A)
      (λ B. operation_run again i.transfer_tokens e d B (x ∷ v.number (pos n) ∷ v.bytes u ∷ V) m) (λ _.
      keeps_issue p (a ∷ t.mutez ∷ k.contract b ∷ A) (x ∷ v.number (pos n) ∷ v.bytes u ∷ V)
      (transfer x n u) A V m _ s s.agree.1.1.1 (λ id. handed x (x ∷ v.number (pos n) ∷ v.bytes u ∷ V) V refl id) (λ q j r. r))
  operation_keeps i.transfer_tokens (a ∷ t.mutez ∷ k.contract b ∷ A) _ f s =
      after_where p (same_kind a b) (makes k.operation A) _ (λ _. tt)
  operation_keeps (i.emit tag b) (a ∷ A) (x ∷ V) f s =
      after_where p (same_kind a b && pushable a) (makes k.operation A) (λ B. operation_run again (i.emit tag b) e d B (x ∷ V) m)
      (λ _.
      keeps_issue p (a ∷ A) (x ∷ V) (event tag b x) A V m _ s s.agree.1 (λ id. handed x (x ∷ V) V refl id) (λ q j r. r))
  operation_keeps (i.emit tag b) (a ∷ A) [] f s = absurd s.agree
  operation_keeps (i.view name a b) (j ∷ t.address ∷ A) (x ∷ v.bytes u ∷ V) f s =
      after_where p (same_kind a j) (makes (k.option b) A)
      (λ B. operation_run again (i.view name a b) e d B (x ∷ v.bytes u ∷ V) m) (λ q.
      view_keeps A a b (viewed e.contract_at name a b u) x u V f
      (λ w l. some_is (IsViewed e.contract_at a) (viewed e.contract_at name a b u) w (viewed_is e.contract_at name a b u) l)
      (restands (a ∷ t.address ∷ A) (x ∷ v.bytes u ∷ V) (back_agrees a j x q s.agree.0, s.agree.1) refl s))
  operation_keeps (i.view name a b) (j ∷ t.address ∷ A) _ f s = after_where p (same_kind a j) (makes (k.option b) A) _ (λ _. tt)
  operation_keeps _ _ _ f s = tt

-- ---- rules

after_is : (p : Aim) (d : Option Change) (x : Change) (B : List Kind) (go : List Kind → Outcome) → d ≡ Some x → B ≡ after x →
    KeepsAfter p d go → Keeps p (go B)
after_is p (Some y) x B go e f h =
    let l : y ≡ x = cc in
    subst (λ C. Keeps p (go C)) (ap after l ∙ sym f) h
after_is p None x B go e f h = absurd cc

module _ (again : Tree → Run) (h : (x : Tree) → KeepsRun (again x)) where
  step_run_keeps : (r : Straight) (e : Surroundings) (d : ℕ) (A B : List Kind) (V : List Val) (m : Tally) (p : Aim) → IsFine r →
      (x : Change) → change r A ≡ Some x → B ≡ after x → Stands p A V m →
      Keeps p (finish (step e.environment (minted_so_far e m) (trial e) r V) B m)
  step_run_keeps r e d A B V m p f x g l s =
      keeps_finish p A V (step e.environment (minted_so_far e m) (trial e) r V) B m
      (subst (λ C. KeepsStep C V (step e.environment (minted_so_far e m) (trial e) r V)) (sym l)
      (step_keeps e.environment (minted_so_far e m) (trial e) r A V x f g s.agree)) s

  row_keeps : (r : Straight) (e : Surroundings) (d : ℕ) (A B : List Kind) (V : List Val) (m : Tally) (p : Aim) →
      SeesAgreement e → IsFine r → (x : Change) → change r A ≡ Some x → B ≡ after x → Stands p A V m →
      Keeps p (row_run again r e d B V m)
  row_keeps (on_operations r) e d A B V m p sees f x g l s =
      after_is p (operation_change r A) x B (λ C. operation_run again r e d C V m) g l
      (operation_keeps again h e d p sees m r A V f s)
  row_keeps (on_stack r) e d A B V m p sees f x g l s = step_run_keeps (on_stack r) e d A B V m p f x g l s
  row_keeps (on_pairs r) e d A B V m p sees f x g l s = step_run_keeps (on_pairs r) e d A B V m p f x g l s
  row_keeps (on_unions r) e d A B V m p sees f x g l s = step_run_keeps (on_unions r) e d A B V m p f x g l s
  row_keeps (on_collections r) e d A B V m p sees f x g l s = step_run_keeps (on_collections r) e d A B V m p f x g l s
  row_keeps (on_numbers r) e d A B V m p sees f x g l s = step_run_keeps (on_numbers r) e d A B V m p f x g l s
  row_keeps (on_truth r) e d A B V m p sees f x g l s = step_run_keeps (on_truth r) e d A B V m p f x g l s
  row_keeps (on_text r) e d A B V m p sees f x g l s = step_run_keeps (on_text r) e d A B V m p f x g l s
  row_keeps (on_hashes r) e d A B V m p sees f x g l s = step_run_keeps (on_hashes r) e d A B V m p f x g l s
  row_keeps (on_environment r) e d A B V m p sees f x g l s = step_run_keeps (on_environment r) e d A B V m p f x g l s
  row_keeps (on_tickets r) e d A B V m p sees f x g l s = step_run_keeps (on_tickets r) e d A B V m p f x g l s

  pub ruled_keeps : (u : Ruled) (e : Surroundings) (d : ℕ) (A : List Kind) (V : List Val) (m : Tally) (p : Aim) →
      SeesAgreement e → IsRule A u → Stands p A V m → Keeps p (ruled_run again u e d A V m)
  ruled_keeps (ruled r B) e d A V m p sees f s =
      keeps_charge p p A V e.prices (kind_of r) (weight_of r V) m _ s
      (λ n l. row_keeps r e d A B V n p sees f.0 f.1.0 f.1.1 f.1.2 l)
  ruled_keeps (faulty l) e d A V m p sees f s = tt
