-- Lambdas that are called and that capture a value, and what fails (Michelson reference, "Operations on functions" and
-- "Control structures").
use Rattle.std.specs.Prelude.{nat_le, is_none, Bool, true, false, List, [], ◌∷◌, ◌++◌, codes}
use Rattle.rules_text.specs.nodes.Limits.{applied_size, applied_depth}
use Rattle.rules_text.specs.nodes.Tree.{Tree, seq, Trees, none, more, trees_of, size, depth}
use Rattle.rules_data.specs.declared.gas.Kind.TheVariants as g
use Rattle.rules_data.specs.types.Kind.{Kind}
use Rattle.rules_data.specs.types.Kind as k
use Rattle.rules_data.specs.types.Attributes.{pushable}
use Rattle.rules_data.specs.types.Printing.{named, node_of}
use Rattle.rules_code.specs.instructions.Context as place
use Rattle.rules_code.specs.instructions.Control.{call_kinds}
use Rattle.rules_data.specs.values.Val.{Val}
use Rattle.rules_data.specs.values.Val as v
use Rattle.rules_data.specs.values.Weight.{weight}
use Rattle.rules_data.specs.values.Canonical.{canonical, over_two}
use Rattle.rules_code.specs.steps.Failure as f
use Rattle.rules_code.specs.typing.Literals.{lambda_fault}
use Rattle.rules_code.specs.evaluation.Surroundings.{Surroundings}
use Rattle.rules_code.specs.evaluation.Outcome.{Outcome, stack, failed, Run, only_if, charge}
use Rattle.rules_code.specs.evaluation.Shapes.{on_top, on_call, on_capture}
use Rattle.rules_code.specs.evaluation.Branches.{paid}
use Rattle.rules_code.specs.evaluation.Loops.{ending}

-- ---- EXEC

-- the surroundings of a lambda's body
abbrev pub in_lambda : Surroundings → Surroundings
in_lambda e = record e { context = place.lambda }

-- the values that the body begins with: the argument, and below it a recursive lambda itself
abbrev pub call_values : Val → Trees → Bool → List Val
call_values x body true = x ∷ v.lambda (seq body) true ∷ []
call_values x body false = x ∷ []

-- a lambda's body goes from its argument's type to its result's, or it is stuck; it runs on these values alone, and `again`
-- runs a node
abbrev pub exec_run : (Tree → Run) → Run
exec_run again e d A V m =
    on_call A V (λ a r A x body recursive V. only_if (is_none (lambda_fault a r recursive (seq body))) (paid e g.Exec m (λ m.
    ending (again (seq body) (in_lambda e) d (call_kinds a r recursive) (call_values x body recursive) m) (r ∷ [])
    (λ _ W m. stack (r ∷ A) (W ++ V) m))))

-- ---- APPLY

-- PUSH of a value of a type
abbrev pub push_node : Kind → Val → Tree
push_node a x = over_two (codes "PUSH") (node_of a) (canonical x)

abbrev pub rec_node : Kind → Kind → Tree → Tree
rec_node a r body = named (codes "LAMBDA_REC") (more (node_of a) (more (node_of r) (more body none)))

-- the body that takes the other part alone; a recursive lambda still gets itself, and takes the pair
abbrev pub applied : Kind → Kind → Kind → Val → Tree → Bool → Tree
applied a b r x body false = seq (trees_of (push_node a x ∷ named (codes "PAIR") none ∷ body ∷ []))
applied a b r x body true =
    seq (trees_of (push_node a x ∷ named (codes "PAIR") none ∷ rec_node (k.pair a b) r body ∷
    named (codes "SWAP") none ∷ named (codes "EXEC") none ∷ []))

abbrev pub shallow_enough : Bool → Tree → (Tree → Outcome) → Outcome
shallow_enough true body go = go body
shallow_enough false body go = failed f.depth_limit

abbrev pub small_enough : Bool → Tree → (Tree → Outcome) → Outcome
small_enough true body go = shallow_enough (nat_le (depth body) applied_depth) body go
small_enough false body go = failed f.size_limit

abbrev pub within_bounds : Tree → (Tree → Outcome) → Outcome
within_bounds body go = small_enough (nat_le (size body) applied_size) body go

abbrev pub apply_run : Run
apply_run e d A V m =
    on_capture A V (λ a b r A x body recursive V. only_if (pushable a) (charge e.prices g.Apply (weight x) m (λ m.
    within_bounds (applied a b r x (seq body) recursive) (λ body. stack (k.lambda b r ∷ A) (v.lambda body false ∷ V) m))))

-- ---- FAILWITH

abbrev pub fail_run : Run
fail_run e d A V m = on_top A V (λ a A x V. only_if (pushable a) (paid e g.Failwith m (λ m. failed (f.failed_with a x))))
