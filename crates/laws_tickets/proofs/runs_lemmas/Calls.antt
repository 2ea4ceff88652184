-- Lambdas that are called and that capture a value, and what fails.
use Rattle.std.proofs.Common.{◌≡◌, Bool, true, false, List, [], ◌∷◌, ◌++◌, refl, sym, ap, ◌∙◌, subst, arith}
use Rattle.std.specs.Prelude.{ℤ, ◌+ℤ◌, nat_le, is_none}
use Rattle.std.specs.List.{flat_map}
use Rattle.std.proofs.lemmas.Int.{ints}
use Rattle.rules_text.specs.nodes.Limits.{applied_size, applied_depth}
use Rattle.rules_text.specs.nodes.Tree.{Tree, seq, Trees, size, depth}
use Rattle.rules_data.specs.declared.gas.Kind.TheVariants as g
use Rattle.rules_data.specs.types.Kind.{Kind}
use Rattle.rules_data.specs.types.Kind as k
use Rattle.rules_data.specs.types.Attributes.{pushable}
use Rattle.rules_code.specs.instructions.Control.{call_kinds}
use Rattle.rules_data.specs.values.Val.{Val}
use Rattle.rules_data.specs.values.Val as v
use Rattle.rules_data.specs.values.Weight.{weight}
use Rattle.rules_data.specs.values.Tickets.{Identity, tickets}
use Rattle.rules_code.specs.steps.Changes.{amount_among}
use Rattle.rules_code.specs.typing.Literals.{lambda_fault}
use Rattle.rules_code.specs.evaluation.Operations.{Tally}
use Rattle.rules_code.specs.evaluation.Outcome.{Outcome, Run}
use Rattle.rules_code.specs.evaluation.Calls.{in_lambda, call_values, exec_run, applied, shallow_enough, small_enough, apply_run, fail_run}
use Rattle.laws_tickets.specs.totals.Agreement.{Agrees, AllAgree}
use Rattle.laws_tickets.specs.totals.Totals.{amount_on, told, total}
use Rattle.laws_tickets.proofs.totals.ForCallers.{on_append, nothing_pushed, agree_append}
use Rattle.laws_tickets.proofs.runs_lemmas.Stands.{Aim, Keeps, KeepsRun, restands, here, stands_here, keeps_ending, keeps_only_if, keeps_charge, keeps_paid}
use Rattle.laws_tickets.proofs.runs_lemmas.Shapes.{keeps_top, keeps_call, keeps_capture}

-- ---- EXEC

call_agrees : (a r : Kind) (x : Val) (body : Trees) (recursive : Bool) → Agrees a x →
    AllAgree (call_kinds a r recursive) (call_values x body recursive)
call_agrees a r x body true h = (h, (tt, tt))
call_agrees a r x body false h = (h, tt)

call_holds : (x : Val) (body : Trees) (recursive : Bool) →
    flat_map tickets (call_values x body recursive) ≡ flat_map tickets (x ∷ [])
call_holds x body true = refl
call_holds x body false = refl

below_sum : (w v x m n : ℤ) → w +ℤ n ≡ x +ℤ m → w +ℤ v +ℤ n ≡ x +ℤ v +ℤ m
below_sum w v x m n e = omega (arith, ints)

-- a stack that a body doesn't see
below_total : (id : Identity) (x : Val) (V W : List Val) (m n : Tally) → total id W n ≡ total id (x ∷ []) m →
    total id (W ++ V) n ≡ total id (x ∷ V) m
below_total id x V W m n e =
    ap (λ z. z +ℤ told id n) (on_append id W V) ∙ below_sum (amount_on id W) (amount_on id V) (amount_on id (x ∷ [])) (told id m)
    (told id n) e
    ∙ ap (λ z. z +ℤ told id m) (sym (on_append id (x ∷ []) V))

pub keeps_exec : (again : Tree → Run) → ((x : Tree) → KeepsRun (again x)) → KeepsRun (exec_run again)
keeps_exec again h e d A V m p sees s =
    keeps_call p p A V m _ s (λ a r B x body self W f. keeps_only_if p (is_none (lambda_fault a r self (seq body))) _
    (λ u. keeps_paid p p (a ∷ B) (x ∷ W) e g.Exec m _ f (λ n j.
    let U : List Val = call_values x body self in
    keeps_ending (here U n) p _ (r ∷ []) _ (h (seq body) (in_lambda e) d (call_kinds a r self) U n (here U n) sees
    (stands_here (call_kinds a r self) U n (call_agrees a r x body self j.agree.0)))
    (λ C X i same q. record {
      agree = agree_append (r ∷ []) B X W (subst (λ D. AllAgree D X) same q.agree) j.agree.1;
      same = λ id. below_total id x W X n i (q.same id ∙ ap (λ ts. amount_among id ts +ℤ told id n) (call_holds x body self))
          ∙ j.same id;
      numbers = λ c. q.numbers (j.numbers c);
      many = omega (arith, j.many, q.many);
    }))))

-- ---- APPLY and FAILWITH

keeps_shallow : (p : Aim) (b : Bool) (x : Tree) (go : Tree → Outcome) → ((y : Tree) → Keeps p (go y)) →
    Keeps p (shallow_enough b x go)
keeps_shallow p true x go h = h x
keeps_shallow p false x go h = tt

keeps_small : (p : Aim) (b : Bool) (x : Tree) (go : Tree → Outcome) → ((y : Tree) → Keeps p (go y)) →
    Keeps p (small_enough b x go)
keeps_small p true x go h = keeps_shallow p (nat_le (depth x) applied_depth) x go h
keeps_small p false x go h = tt

pub keeps_apply : KeepsRun apply_run
keeps_apply e d A V m p sees s =
    keeps_capture p p A V m _ s (λ a b r B x body self W f. keeps_only_if p (pushable a) _
    (λ u. keeps_charge p p (a ∷ B) (x ∷ W) e.prices g.Apply (weight x) m _ f (λ n j.
    keeps_small p (nat_le (size (applied a b r x (seq body) self)) applied_size) (applied a b r x (seq body) self) _ (λ y.
    restands (k.lambda b r ∷ B) (v.lambda y false ∷ W) (tt, j.agree.1)
    (sym (ap (λ ts. ts ++ flat_map tickets W) (nothing_pushed a x u j.agree.0))) j))))

pub keeps_fail : KeepsRun fail_run
keeps_fail e d A V m p sees s =
    keeps_top p p A V m _ s (λ a B x W f. keeps_only_if p (pushable a) _
    (λ u. keeps_paid p p (a ∷ B) (x ∷ W) e g.Failwith m _ f (λ n j. tt)))
