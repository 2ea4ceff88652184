-- Lambdas that are called, and what fails.
use Rattle.std.proofs.Common.{◌≡◌, ℕ, Bool, true, false, List, [], ◌∷◌, ◌++◌, Some, None, refl, sym, ap, subst, arith, pos}
use Rattle.std.specs.Prelude.{◌≤ℤ◌, if◌then◌else◌, ◌<◌, ◌^◌, is_none}
use Rattle.std.proofs.lemmas.Int.{ints}
use Rattle.rules_text.specs.nodes.Tree.{Tree, seq, Trees, size}
use Rattle.rules_data.specs.types.Kind.{Kind}
use Rattle.rules_data.specs.types.Kind as k
use Rattle.rules_data.specs.types.Attributes.{pushable}
use Rattle.rules_code.specs.instructions.Types as ty
use Rattle.rules_code.specs.instructions.Context as place
use Rattle.rules_code.specs.instructions.Control.{call_kinds}
use Rattle.rules_code.specs.instructions.Same.{same_kind}
use Rattle.rules_data.specs.values.Val.{Val}
use Rattle.rules_data.specs.values.Val as v
use Rattle.rules_data.specs.values.Tickets.{Identity}
use Rattle.rules_code.specs.steps.Changes.{amount_in}
use Rattle.rules_code.specs.typing.Typing.{Typing, goes, fails, bad}
use Rattle.rules_code.specs.typing.Bodies.{body_fault}
use Rattle.rules_code.specs.typing.Literals.{lambda_fault}
use Rattle.rules_code.specs.typing.Fits.{Known, Fits, AllFit, Leads}
use Rattle.rules_code.specs.typing.Nodes.{tree_type}
use Rattle.rules_code.specs.typing.Stacks as asked
use Rattle.rules_code.specs.evaluation.Surroundings.{Contract, Surroundings}
use Rattle.rules_code.specs.evaluation.Operations.{Tally}
use Rattle.rules_code.specs.evaluation.Outcome.{Outcome, stack, failed, stuck, Run, only_if}
use Rattle.rules_code.specs.steps.Failure as f
use Rattle.rules_code.specs.evaluation.Branches.{paid}
use Rattle.rules_code.specs.evaluation.Loops.{ending}
use Rattle.rules_code.specs.evaluation.Calls.{in_lambda, call_values, exec_run, fail_run}
use Rattle.rules_data.specs.declared.gas.Kind.TheVariants as price
use Rattle.laws_code.specs.evaluation.Laws.{known, IsType, IsGood, IsGoodContract, amount_on}
use Rattle.laws_code.specs.stacks.Sound.{seen, AllTypes, Sound, After, KeepsFrom, SafeRun}
use Rattle.laws_code.proofs.stacks.ForCallers.{on-append, on_positive, all_grow, knows_grow, keeps_from, keeps_leads, sound_with, keeps_charge}
use Rattle.laws_data.proofs.types_lemmas.ForCallers.{same_kind_true, same_kinds_refl}

-- ---- the surroundings of a lambda

good_contract : (e : Surroundings) (c : Contract) → IsGoodContract e c → IsGoodContract (in_lambda e) c
good_contract e c h = record {
  reading = h.reading;
  is_script = h.is_script;
  small = h.small;
  fits = h.fits;
  balance =
      h.balance;
  tickets = h.tickets;
}

pub good_in_lambda : (e : Surroundings) → IsGood e → IsGood (in_lambda e)
good_in_lambda e g = record {
  environment = g.environment;
  group = g.group;
  own = (g.own.0, g.own.1, tt);
  contracts = λ hash c h. good_contract e c (g.contracts hash c h);
  minted = g.minted;
}

-- ---- EXEC

call_types : (a r : Kind) (b : Bool) → IsType a → IsType (k.lambda a r) → AllTypes (call_kinds a r b)
call_types a r true h i = (h, (i, tt))
call_types a r false h i = (h, tt)

call_fit : (w : Known) (a r : Kind) (x : Val) (body : Trees) (b : Bool) → Fits w a x →
    Fits w (k.lambda a r) (v.lambda (seq body) b) → AllFit w (call_kinds a r b) (call_values x body b)
call_fit w a r x body true h i = (h, (i, tt))
call_fit w a r x body false h i = (h, tt)

call_amount : (id : Identity) (x : Val) (body : Trees) (b : Bool) → amount_on id (call_values x body b) ≡ amount_in id x
call_amount id x body true = omega (arith, ints)
call_amount id x body false = omega (arith, ints)

-- a body that leads to its result has no fault
no_fault : (u : Typing) (r : Kind) → Leads u (r ∷ []) → is_none (body_fault 0 u r) ≡ true
no_fault (goes B) r l =
    subst (λ B. is_none (body_fault 0 (goes B) r) ≡ true) (sym l)
    (ap (λ q. is_none {T = ℕ} (if q then None else Some 0)) (same_kinds_refl (r ∷ [])))
no_fault fails r l = refl
no_fault (bad i) r l = absurd l

-- a node and all that it holds run well with less gas
module _ (again : Tree → Run) (sa : (t : Tree) → size t < 2 ^ 32 → SafeRun (tree_type t) (again t)) (e : Surroundings) (d : ℕ)
    (g : IsGood e) where
  called : (a r : Kind) (A : List Kind) (x : Val) (body : Trees) (b : Bool) (V : List Val) (m : Tally) →
      Sound (seen e) m.issued m.changes (a ∷ k.lambda a r ∷ A) (x ∷ v.lambda (seq body) b ∷ V) →
      KeepsFrom (seen e) m.issued m.changes (V ++ call_values x body b) (goes (r ∷ A))
      (ending (again (seq body) (in_lambda e) d (call_kinds a r b) (call_values x body b) m) (r ∷ [])
      (λ _ W m. stack (r ∷ A) (W ++ V) m))
  called a r A x body b V m so =
      let K : Known = known e.contract_at m.issued in
      let lambda : Fits K (k.lambda a r) (v.lambda (seq body) b) = so.fit.1.0 in
      let begins : Sound (seen e) m.issued m.changes (call_kinds a r b) (call_values x body b) =
      sound_with (a ∷ k.lambda a r ∷ A) (call_kinds a r b) (x ∷ v.lambda (seq body) b ∷ V) (call_values x body b) so
      (call_types a r b so.types.0 so.types.1.0) (call_fit K a r x body b so.fit.0 lambda)
      (λ id. let q : pos 0 ≤ℤ amount_on id V = on_positive id K A V so.fit.1.1 in omega (arith, ints, call_amount id x body b)) in
      keeps_leads (seen e) m.issued m.changes V (call_values x body b) (tree_type (seq body) place.lambda (call_kinds a r b))
      (r ∷ []) (goes (r ∷ A))
      (again (seq body) (in_lambda e) d (call_kinds a r b) (call_values x body b) m) (λ _ W m. stack (r ∷ A) (W ++ V) m) lambda.2
      (sa (seq body) lambda.1 (in_lambda e) d (call_kinds a r b) (call_values x body b) m (good_in_lambda e g) begins)
      (λ W n f. one W n f)
    where
      one : (W : List Val) (n : Tally) → After (seen e) m.issued m.changes (call_values x body b) (r ∷ []) W n →
          KeepsFrom (seen e) n.issued n.changes (V ++ W) (goes (r ∷ A)) (stack (r ∷ A) (W ++ V) n)
      one [] n f = absurd f.fit
      one (y ∷ []) n f = (
        refl,
        record {
          fit = (
            f.fit.0,
            all_grow (known e.contract_at m.issued) (known e.contract_at n.issued)
                (knows_grow (seen e) m.issued n.issued f.grows) A V so.fit.1.1,
          );
          grows = λ i j. j;
          tickets = λ id. omega (arith, ints, on-append id V (y ∷ []));
          most = f.most;
          mints = f.mints;
          well = λ h. h;
        },
      )
      one (y ∷ z ∷ W) n f = absurd f.fit.1

  calls : (a r : Kind) (A : List Kind) (x : Val) (body : Trees) (b : Bool) (V : List Val) (m : Tally) →
      Sound (seen e) m.issued m.changes (a ∷ k.lambda a r ∷ A) (x ∷ v.lambda (seq body) b ∷ V) →
      KeepsFrom (seen e) m.issued m.changes (x ∷ v.lambda (seq body) b ∷ V) (goes (r ∷ A))
      (only_if (is_none (lambda_fault a r b (seq body)))
      (paid e price.Exec m (λ m. ending (again (seq body) (in_lambda e) d (call_kinds a r b) (call_values x body b) m) (r ∷ [])
      (λ _ W m. stack (r ∷ A) (W ++ V) m))))
  calls a r A x body b V m so =
      let body_run : Tally → Outcome = λ m. ending (again (seq body) (in_lambda e) d (call_kinds a r b)
      (call_values x body b) m) (r ∷ []) (λ _ W m. stack (r ∷ A) (W ++ V) m) in
      subst (λ q. KeepsFrom (seen e) m.issued m.changes (x ∷ v.lambda (seq body) b ∷ V) (goes (r ∷ A))
      (only_if q (paid e price.Exec m body_run)))
      (sym (no_fault (tree_type (seq body) place.lambda (call_kinds a r b)) r so.fit.1.0.2))
      (keeps_charge (seen e) m (x ∷ v.lambda (seq body) b ∷ V) (goes (r ∷ A)) e.prices price.Exec 0 body_run (λ i.
      keeps_from (seen e) m.issued m.changes (V ++ call_values x body b) (x ∷ v.lambda (seq body) b ∷ V) (goes (r ∷ A))
      (body_run (record m { gas = i }))
      (λ id. omega (arith, ints, on-append id V (call_values x body b), call_amount id x body b))
      (called a r A x body b V (record m { gas = i }) so)))

  pub safe_exec : (A : List Kind) (V : List Val) (m : Tally) → Sound (seen e) m.issued m.changes A V →
      KeepsFrom (seen e) m.issued m.changes V (asked.on_call A (λ r A. goes (r ∷ A))) (exec_run again e d A V m)
  safe_exec (a ∷ k.lambda c r ∷ A) (x ∷ v.lambda (seq body) b ∷ V) m so = by_test (same_kind a c) refl
    where
      by_test : (q : Bool) → same_kind a c ≡ q → KeepsFrom (seen e) m.issued m.changes (x ∷ v.lambda (seq body) b ∷ V)
          (if q then goes (r ∷ A) else bad 0)
          (only_if q (only_if (is_none (lambda_fault a r b (seq body)))
          (paid e price.Exec m (λ m. ending (again (seq body) (in_lambda e) d (call_kinds a r b) (call_values x body b) m)
          (r ∷ []) (λ _ W m. stack (r ∷ A) (W ++ V) m)))))
      by_test true q = calls a r A x body b V m
          (subst (λ z. Sound (seen e) m.issued m.changes (a ∷ k.lambda z r ∷ A) (x ∷ v.lambda (seq body) b ∷ V))
          (sym (same_kind_true a c q)) so)
      by_test false q = tt
  safe_exec (a ∷ k.lambda c r ∷ A) (x ∷ v.lambda t b ∷ V) m so = absurd so.fit.1.0.0
  safe_exec (a ∷ k.lambda c r ∷ A) (x ∷ y ∷ V) m so = absurd so.fit.1.0
  safe_exec (a ∷ k.lambda c r ∷ A) (x ∷ []) m so = absurd so.fit.1
  safe_exec (a ∷ k.lambda c r ∷ A) [] m so = absurd so.fit
  safe_exec A V m so = tt

-- ---- FAILWITH and NEVER

module _ (e : Surroundings) (d : ℕ) where
  pub safe_fail : (A : List Kind) (V : List Val) (m : Tally) → Sound (seen e) m.issued m.changes A V →
      KeepsFrom (seen e) m.issued m.changes V (asked.on_shown A) (fail_run e d A V m)
  safe_fail [] V m so = tt
  safe_fail (a ∷ A) [] m so = absurd so.fit
  safe_fail (a ∷ A) (x ∷ V) m so = by_test (pushable a)
    where
      by_test : (q : Bool) → KeepsFrom (seen e) m.issued m.changes (x ∷ V) (if q then fails else bad 0)
          (only_if q (paid e price.Failwith m (λ m. failed (f.failed_with a x))))
      by_test true = keeps_charge (seen e) m (x ∷ V) fails e.prices _ 0 _ (λ i. tt)
      by_test false = tt

  pub safe_never : (A : List Kind) (V : List Val) (m : Tally) → Sound (seen e) m.issued m.changes A V →
      KeepsFrom (seen e) m.issued m.changes V (asked.on_never A) stuck
  safe_never (ty.never ∷ A) [] m so = absurd so.fit
  safe_never (ty.never ∷ A) (x ∷ V) m so = let h = so.fit.0 in absurd cc
  safe_never A V m so = tt
