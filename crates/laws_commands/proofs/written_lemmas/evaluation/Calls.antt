-- Lambdas that are called and that capture a value, and what fails.
use Rattle.std.proofs.Common.{◌≡◌, ◌<◌, ◌≤◌, ◌^◌, ℕ, pos, Bool, true, false, List, [], ◌∷◌, ◌++◌, refl, sym, subst, arith}
use Rattle.std.specs.Prelude.{◌≤ℤ◌, nat_le, is_none, codes}
use Rattle.std.proofs.lemmas.Bool.{leb-true}
use Rattle.std.proofs.lemmas.Int.{ints}
use Rattle.rules_text.specs.nodes.Limits.{depth_limit, applied_size, applied_depth}
use Rattle.rules_text.specs.nodes.Tree.{Tree, seq, Trees, size, depth}
use Rattle.rules_data.specs.declared.gas.Kind.TheVariants as price
use Rattle.rules_data.specs.types.Kind.{Kind}
use Rattle.rules_data.specs.types.Kind as k
use Rattle.rules_data.specs.types.Attributes.{pushable}
use Rattle.rules_data.specs.types.Printing.{node_of}
use Rattle.rules_code.specs.instructions.Same.{same_kind}
use Rattle.rules_code.specs.instructions.Context as place
use Rattle.rules_code.specs.instructions.Control.{call_kinds}
use Rattle.rules_data.specs.values.Val.{Val}
use Rattle.rules_data.specs.values.Val as v
use Rattle.rules_data.specs.values.Weight.{weight}
use Rattle.rules_data.specs.values.Canonical.{canonical}
use Rattle.rules_data.specs.values.Tickets.{Identity}
use Rattle.rules_code.specs.steps.Changes.{amount_in}
use Rattle.rules_code.specs.typing.Typing.{Typing, goes, fails, bad}
use Rattle.rules_code.specs.typing.Literals.{lambda_fault}
use Rattle.rules_code.specs.typing.Fits.{Known, Fits, AllFit, Leads}
use Rattle.rules_code.specs.typing.Nodes.{tree_type}
use Rattle.rules_code.specs.evaluation.Surroundings.{Surroundings}
use Rattle.rules_code.specs.evaluation.Operations.{Tally}
use Rattle.rules_code.specs.evaluation.Outcome.{Outcome, stack, Run}
use Rattle.rules_code.specs.evaluation.Calls.{in_lambda, call_values, exec_run, applied, shallow_enough, small_enough, within_bounds, apply_run, fail_run}
use Rattle.laws_typing.specs.packing.Laws.{IsTyped}
use Rattle.laws_data.proofs.types_lemmas.ForCallers.{same_kind_true}
use Rattle.laws_code.specs.evaluation.Laws.{known, IsType, amount_on}
use Rattle.laws_code.specs.stacks.Sound.{AllTypes, SafeRun}
use Rattle.laws_code.proofs.control.ForCallers.{good_in_lambda}
use Rattle.laws_code.proofs.stacks.ForCallers.{on_positive, sound_with}
use Rattle.mich_text.specs.Written.{HasTextForm}
use Rattle.laws_commands.specs.written.Written.{HasForm, IsWritten, AllWritten, SeesWritten}
use Rattle.laws_commands.proofs.written_lemmas.values.Levels.{closed, text_form}
use Rattle.laws_commands.proofs.written_lemmas.values.Values.{kind_form, over_two_form}
use Rattle.laws_commands.proofs.written_lemmas.values.Fitting.{fits_form}
use Rattle.laws_commands.proofs.written_lemmas.evaluation.Stands.{Keeps, Begins, KeepsRun, refuelled, keeps_ending, keeps_only_if, keeps_charge, keeps_paid}
use Rattle.laws_commands.proofs.common.Lists.{all_append}

pub leads_typed : (t : Typing) (C : List Kind) → Leads t C → IsTyped t
leads_typed (goes B) C h = tt
leads_typed fails C h = tt
leads_typed (bad l) C h = h

call_types : (a r : Kind) (b : Bool) → IsType a → IsType (k.lambda a r) → AllTypes (call_kinds a r b)
call_types a r true h i = (h, (i, tt))
call_types a r false h i = (h, tt)

call_fit : (w : Known) (a r : Kind) (x : Val) (body : Trees) (b : Bool) → Fits w a x → Fits w (k.lambda a r) (v.lambda (seq body) b) →
    AllFit w (call_kinds a r b) (call_values x body b)
call_fit w a r x body true h i = (h, (i, tt))
call_fit w a r x body false h i = (h, tt)

call_amount : (id : Identity) (x : Val) (body : Trees) (b : Bool) → amount_on id (call_values x body b) ≡ amount_in id x
call_amount id x body true = omega (arith, ints)
call_amount id x body false = omega (arith, ints)

call_written : (x : Val) (body : Trees) (b : Bool) → IsWritten x → HasForm (seq body) → AllWritten (call_values x body b)
call_written x body true h g = (h, (g, tt))
call_written x body false h g = (h, tt)

sees_in_lambda : (e : Surroundings) → SeesWritten e → SeesWritten (in_lambda e)
sees_in_lambda e s = record { environment = s.environment; contracts = s.contracts }

applied_form : (a b r : Kind) (x : Val) (body : Tree) (self : Bool) → HasTextForm (canonical x) → HasTextForm body →
    HasTextForm (applied a b r x body self)
applied_form a b r x body false h g = (
  over_two_form (codes "PUSH") (node_of a) (canonical x) (refl, refl, omega arith) (kind_form a) h,
  (
    ((refl, refl, omega arith), tt, tt),
    (g, tt),
  ),
)
applied_form a b r x body true h g = (
  over_two_form (codes "PUSH") (node_of a) (canonical x) (refl, refl, omega arith) (kind_form a) h,
  (
    ((refl, refl, omega arith), tt, tt),
    (
      ((refl, refl, omega arith), tt, (kind_form (k.pair a b), (kind_form r, (g, tt)))),
      (((refl, refl, omega arith), tt, tt), (((refl, refl, omega arith), tt, tt), tt)),
    ),
  ),
)

module _ (There : List ℕ → Type 0) where
  module _ (again : Tree → Run) (sa : (t : Tree) → size t < 2 ^ 32 → SafeRun (tree_type t) (again t))
      (ka : (t : Tree) → size t < 2 ^ 32 → HasForm t → KeepsRun There (tree_type t) (again t)) (e : Surroundings) (d : ℕ) where
    pub keeps_exec : (A : List Kind) (V : List Val) (m : Tally) → Begins There e A V m → Keeps There (exec_run again e d A V m)
    keeps_exec (a ∷ k.lambda c r ∷ A) (x ∷ v.lambda (seq body) b ∷ V) m g =
        keeps_only_if There (same_kind a c) _ (λ q. keeps_only_if There (is_none (lambda_fault a r b (seq body))) _
        (λ q'. keeps_paid There e price.Exec m _ (λ gas.
        let n : Tally = record m { gas = gas } in
        let K : Known = known e.contract_at m.issued in
        let same : a ≡ c = same_kind_true a c q in
        let lambda : Fits K (k.lambda a r) (v.lambda (seq body) b) = subst (λ z. Fits K (k.lambda z r) (v.lambda (seq body) b)) (sym same)
        g.sound.fit.1.0 in
        let whole : IsType (k.lambda a r) = subst (λ z. IsType (k.lambda z r)) (sym same) g.sound.types.1.0 in
        let begins : Begins There (in_lambda e) (call_kinds a r b) (call_values x body b) n = record {
          good = good_in_lambda e g.good;
          sees = sees_in_lambda e g.sees;
          own = g.own;
          around = g.around;
          sound = sound_with (a ∷ k.lambda c r ∷ A) (call_kinds a r b) (x ∷ v.lambda (seq body) b ∷ V) (call_values x body b) g.sound
              (call_types a r b g.sound.types.0 whole) (call_fit K a r x body b g.sound.fit.0 lambda)
              (λ id. let p : pos 0 ≤ℤ amount_on id V = on_positive id K A V g.sound.fit.1.1 in omega (arith, ints, call_amount id x body b));
          values = call_written x body b g.values.0 g.values.1.0;
          tally = (refuelled There gas g).tally;
        } in
        let typed : IsTyped (tree_type (seq body) place.lambda (call_kinds a r b)) = leads_typed
        (tree_type (seq body) place.lambda (call_kinds a r b)) (r ∷ []) lambda.2 in
        keeps_ending There (in_lambda e) n (call_values x body b) (tree_type (seq body) place.lambda (call_kinds a r b))
        (again (seq body) (in_lambda e) d (call_kinds a r b) (call_values x body b) n) (r ∷ []) (λ _ W o. stack (r ∷ A) (W ++ V) o)
        (sa (seq body) lambda.1 (in_lambda e) d (call_kinds a r b) (call_values x body b) n begins.good begins.sound)
        (ka (seq body) lambda.1 g.values.1.0 (in_lambda e) d (call_kinds a r b) (call_values x body b) n begins typed) typed
        (λ W o f values tally. (all_append IsWritten W V values g.values.1.1, tally)))))
    keeps_exec _ _ m g = tt

  keeps_shallow : (b : Bool) (x : Tree) (go : Tree → Outcome) → nat_le (depth x) applied_depth ≡ b → (depth x ≤ depth_limit → Keeps There (go x)) →
      Keeps There (shallow_enough b x go)
  keeps_shallow true x go e h = h (leb-true (depth x) applied_depth e)
  keeps_shallow false x go e h = tt

  keeps_within : (x : Tree) (go : Tree → Outcome) → (depth x ≤ depth_limit → Keeps There (go x)) → Keeps There (within_bounds x go)
  keeps_within x go h = by (nat_le (size x) applied_size)
    where
      by : (b : Bool) → Keeps There (small_enough b x go)
      by true = keeps_shallow (nat_le (depth x) applied_depth) x go refl h
      by false = tt

  module _ (e : Surroundings) (d : ℕ) where
    pub keeps_apply : (A : List Kind) (V : List Val) (m : Tally) → Begins There e A V m → Keeps There (apply_run e d A V m)
    keeps_apply (a ∷ k.lambda (k.pair c b) r ∷ A) (x ∷ v.lambda (seq body) self ∷ V) m g =
        keeps_only_if There (same_kind a c) _ (λ q. keeps_only_if There (pushable a) _ (λ q'. keeps_charge There e.prices price.Apply (weight x) m _ (λ gas.
        let literal : HasTextForm (canonical x) = fits_form (known e.contract_at m.issued) a x g.sound.fit.0 g.values.0 in
        let made : HasTextForm (applied a b r x (seq body) self) = applied_form a b r x (seq body) self literal (text_form (seq body) g.values.1.0) in
        keeps_within (applied a b r x (seq body) self) (λ y. stack (k.lambda b r ∷ A) (v.lambda y false ∷ V) (record m { gas = gas }))
        (λ few. ((closed (applied a b r x (seq body) self) made few, g.values.1.1), (refuelled There gas g).tally)))))
    keeps_apply _ _ m g = tt

    -- ---- FAILWITH

    pub keeps_fail : (A : List Kind) (V : List Val) (m : Tally) → Begins There e A V m → Keeps There (fail_run e d A V m)
    keeps_fail (a ∷ A) (x ∷ V) m g =
        keeps_only_if There (pushable a) _ (λ q. keeps_paid There e price.Failwith m _
        (λ gas. fits_form (known e.contract_at m.issued) a x g.sound.fit.0 g.values.0))
    keeps_fail _ _ m g = tt
