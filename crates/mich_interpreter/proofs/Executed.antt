-- Calls of lambdas, whatever their bodies are.
use Rattle.std.proofs.Common.{◌≡◌, ◌<◌, ◌^◌, ℕ, Bool, true, false, List, [], ◌∷◌, Option, Some, None, refl, subst}
use Rattle.std.specs.Prelude.{is_none}
use Rattle.rules_text.specs.nodes.Tree.{Tree, seq, Trees, size}
use Rattle.rules_data.specs.declared.gas.Kind.TheVariants as g
use Rattle.rules_data.specs.types.Kind.{Kind}
use Rattle.rules_code.specs.instructions.Context as place
use Rattle.rules_code.specs.instructions.Control.{call_kinds}
use Rattle.rules_data.specs.values.Val.{Val}
use Rattle.rules_data.specs.values.Val as v
use Rattle.rules_code.specs.steps.Failure as f
use Rattle.rules_code.specs.typing.Literals.{lambda_fault}
use Rattle.rules_code.specs.evaluation.Calls.{call_values}
use Rattle.rules_code.specs.evaluation.Operations.{Tally}
use Rattle.rules_code.specs.evaluation.Outcome.{Outcome, failed}
use Rattle.mich_control.specs.Answers.{inside}
use Rattle.mich_instr.specs.Code.{Codes}
use Rattle.mich_instr.specs.Code as made
use Rattle.mich_instr.specs.Typed.{AreCode, is_exec, is_lambda}
use Rattle.mich_frames.specs.Around.{Around, less, Pays, Lacks}
use Rattle.mich_frames.specs.Frames.{Frame}
use Rattle.mich_frames.specs.Frames as fr
use Rattle.mich_frames.specs.Stands.{MeetsAt, OpensAt}
use Rattle.mich_frames.specs.Shapes.{HasTop, HasCall}
use Rattle.mich_frames.proofs.ForCallers.{exec_top, exec_opens, exec_typed, exec_broke, lambda_below, FineCase, meets_fine}
use Rattle.mich_interpreter.specs.Calls.{HasLambda, called}

-- ---- an argument and a lambda

pub call_top : (V : List Val) → HasCall V → HasTop V
call_top [] h = absurd h
call_top (x ∷ V) h = tt

pub call_below : (x : Val) (V : List Val) → HasCall (x ∷ V) → HasLambda V
call_below x (v.lambda (seq ts) recursive ∷ W) h = tt
call_below x _ h = absurd h

pub call_seq : (x : Val) (t : Tree) (recursive : Bool) (W : List Val) → HasCall (x ∷ v.lambda t recursive ∷ W) → t ≡ seq (inside t)
call_seq x (seq ts) recursive W h = refl
call_seq x _ recursive W h = absurd h

called_is : (x : Val) (ts : Trees) (recursive : Bool) → call_values x ts recursive ≡ called x (seq ts) recursive
called_is x ts true = refl
called_is x ts false = refl

is_none_is : (o : Option ℕ) → is_none o ≡ true → o ≡ None
is_none_is None e = refl
is_none_is (Some n) e = absurd cc

-- ---- EXEC

module _ {fs : List Frame} {u : Around} {m : Tally} {d : ℕ} {Z : List Kind} {o : Outcome} {a r : Kind} where
  pub exec_any_broke : (V : List Val) → Lacks u g.Exec 0 m → MeetsAt (made.exec a r) fs u V m d Z o → HasCall V → o ≡ failed f.out_of_gas
  exec_any_broke (x ∷ v.lambda (seq ts) recursive ∷ W) lacks h top = exec_broke x ts recursive W lacks h
  exec_any_broke _ lacks h top = absurd top

  exec_small : (x : Val) (ts : Trees) (recursive : Bool) (W : List Val) → MeetsAt (made.exec a r) fs u (x ∷ v.lambda (seq ts) recursive ∷ W) m d Z o → size (seq ts) < 2 ^ 32
  exec_small x ts recursive W h = meets_fine h by
    where
      by : FineCase (made.exec a r) fs u (x ∷ v.lambda (seq ts) recursive ∷ W) m d Z o (size (seq ts) < 2 ^ 32)
      by ps c _ _ _ (is_exec {A = A} form) rests depth same typed small holds = (lambda_below holds).0

  -- its body is no larger than bodies of lambdas may be
  pub exec_fits : (x : Val) (t : Tree) (recursive : Bool) (W : List Val) → MeetsAt (made.exec a r) fs u (x ∷ v.lambda t recursive ∷ W) m d Z o → size t < 2 ^ 32
  exec_fits x (seq ts) recursive W h = exec_small x ts recursive W h
  exec_fits x _ recursive W h = absurd (exec_top h)

  -- and goes from the type of its argument to that of its result
  pub exec_faultless : (x : Val) (t : Tree) (recursive : Bool) (W : List Val) → MeetsAt (made.exec a r) fs u (x ∷ v.lambda t recursive ∷ W) m d Z o → lambda_fault a r recursive t ≡ None
  exec_faultless x (seq ts) recursive W h = is_none_is (lambda_fault a r recursive (seq ts)) (exec_typed x ts recursive W h)
  exec_faultless x _ recursive W h = absurd (exec_top h)

  pub exec_any_opens : {is : Codes} (x : Val) (t : Tree) (recursive : Bool) (W : List Val) → Pays u g.Exec 0 m → AreCode place.lambda (inside t) is (call_kinds a r recursive) (r ∷ []) →
      MeetsAt (made.exec a r) fs u (x ∷ v.lambda t recursive ∷ W) m d Z o → OpensAt is (fr.call W ∷ fs) u (called x t recursive) (less u g.Exec 0 m) d Z o
  exec_any_opens {is = is} x (seq ts) recursive W pays fine h = subst (λ (X : List Val). OpensAt is (fr.call W ∷ fs) u X (less u g.Exec 0 m) d Z o) (called_is x ts recursive) (exec_opens x ts recursive W pays fine h)
  exec_any_opens x _ recursive W pays fine h = absurd (exec_top h)

-- ---- LAMBDA and LAMBDA_REC

module _ {fs : List Frame} {u : Around} {m : Tally} {d : ℕ} {Z : List Kind} {o : Outcome} {V : List Val} where
  -- the code that stands beside the body is its typed code
  pub lambda_body : {a r : Kind} {written : Trees} {is : Codes} (recursive : Bool) (body : Tree) → MeetsAt (made.lambda recursive a r written body is) fs u V m d Z o →
      AreCode place.lambda (inside body) is (call_kinds a r recursive) (r ∷ [])
  lambda_body {a = a} {r = r} {written = written} {is = is} recursive body h =
      by recursive a r written body is h.pending h.context h.node h.types h.next h.fine h.rests h.depth h.same h.typed h.small h.holds
    where
      by : (recursive : Bool) (a r : Kind) (written : Trees) (body : Tree) (is : Codes) →
          FineCase (made.lambda recursive a r written body is) fs u V m d Z o (AreCode place.lambda (inside body) is (call_kinds a r recursive) (r ∷ []))
      by recursive _ _ _ _ _ ps c _ _ _ (is_lambda form found_is fine) rests depth same typed small holds = fine
