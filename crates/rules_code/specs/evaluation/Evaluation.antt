-- What a node does to a stack (Michelson reference, "Semantics").
use Rattle.std.specs.Prelude.{ℕ, zero, suc, true, false, List, [], ◌∷◌, Option}
use Rattle.rules_text.specs.nodes.Tree.{Tree, int, str, bytes, prim, seq, Trees, none, more}
use Rattle.rules_text.specs.nodes.Primitives.{primitive_of_name}
use Rattle.rules_text.specs.declared.nodes.Primitive.{Primitive}
use Rattle.rules_data.specs.declared.gas.Kind.TheVariants as g
use Rattle.rules_data.specs.types.Kind.{Kind}
use Rattle.rules_code.specs.instructions.Context.{Context}
use Rattle.rules_code.specs.instructions.Context as place
use Rattle.rules_code.specs.instructions.Rules.{rule}
use Rattle.rules_code.specs.instructions.Control.{dip_of}
use Rattle.rules_code.specs.instructions.Forms.{Form, form_of}
use Rattle.rules_code.specs.instructions.Forms as f
use Rattle.rules_code.specs.typing.Typing.{Typer, part_kind}
use Rattle.rules_code.specs.typing.Nodes.{tree_type, trees_type}
use Rattle.rules_code.specs.steps.Failure as failure
use Rattle.rules_code.specs.evaluation.Outcome.{Outcome, stack, failed, stuck, Run, after, block}
use Rattle.rules_code.specs.evaluation.Branches.{if_run, if_none_run, if_left_run, if_cons_run, dip_run}
use Rattle.rules_code.specs.evaluation.Loops.{turns_run, left_turns_run, loop_run, loop_left_run, iter_run, map_run}
use Rattle.rules_code.specs.evaluation.Calls.{exec_run, apply_run, fail_run}
use Rattle.rules_code.specs.evaluation.Given.{on_found, push_run, lambda_run, self_run, create_run}
use Rattle.rules_code.specs.evaluation.Straight.{ruled_run}

-- ---- instructions from what their bodies do

-- what may be evaluated again with less gas: a node, or the further turns of a loop with this body
pub data Task : Type 0 where
  node : Tree → Task
  turns : Trees → Task
  left_turns : Trees → Task

-- an argument that is a body, with what it does as a block; or another
pub data Arg : Type 0 where
  body : Trees → Run → Arg
  other : Arg

abbrev pub no_body : List Arg → Outcome → Outcome
no_body [] o = o
no_body args o = stuck

abbrev pub one_body : List Arg → (Trees → Run → Outcome) → Outcome
one_body (body ts r ∷ []) go = go ts r
one_body args go = stuck

abbrev pub two_bodies : List Arg → (Run → Run → Outcome) → Outcome
two_bodies (body ts r ∷ body us s ∷ []) go = go r s
two_bodies args go = stuck

-- the body behind other arguments
abbrev pub last_body : List Arg → (Run → Outcome) → Outcome
last_body [] go = stuck
last_body (body ts r ∷ []) go = go r
last_body (other ∷ []) go = stuck
last_body (x ∷ y ∷ args) go = last_body (y ∷ args) go

-- TRANSFER_TOKENS has no place in a view, but in the lambdas of one
abbrev pub outside_views : Context → Outcome → Outcome
outside_views place.view o = stuck
outside_views c o = o

-- the type of what a body makes of an item on these types
abbrev pub result_kind : Trees → Context → Kind → List Kind → Option Kind
result_kind ts c a A = part_kind (trees_type ts c (a ∷ A)) A

-- An instruction of each form, by its name, annotations and arguments, its typing, and what its bodies do; `again` is the
-- evaluation with less gas. No value has the type of NEVER's operand.
abbrev pub act : (Task → Run) → Form → Option Primitive → List (List ℕ) → Trees → Typer → List Arg → Run
act again f.straight name annots ts typing args e d A V m = ruled_run (λ t. again (node t)) (rule name annots ts A) e d A V m
act again f.transfer name annots ts typing args e d A V m =
    outside_views e.context (ruled_run (λ t. again (node t)) (rule name annots ts A) e d A V m)
act again f.push name annots ts typing args e d A V m = push_run ts (typing e.context A) e d A V m
act again f.dip name annots ts typing args e d A V m = on_found (dip_of ts) (λ n. last_body args (λ r. dip_run n r e d A V m))
act again f.lambda name annots ts typing args e d A V m = lambda_run g.Lambda false ts (typing e.context A) e d A V m
act again f.lambda_rec name annots ts typing args e d A V m = lambda_run g.LambdaRec true ts (typing e.context A) e d A V m
act again f.exec name annots ts typing args e d A V m = no_body args (exec_run (λ t. again (node t)) e d A V m)
act again f.apply name annots ts typing args e d A V m = no_body args (apply_run e d A V m)
act again f.if_bool name annots ts typing args e d A V m = two_bodies args (λ r s. if_run r s e d A V m)
act again f.if_none name annots ts typing args e d A V m = two_bodies args (λ r s. if_none_run r s e d A V m)
act again f.if_left name annots ts typing args e d A V m = two_bodies args (λ r s. if_left_run r s e d A V m)
act again f.if_cons name annots ts typing args e d A V m = two_bodies args (λ r s. if_cons_run r s e d A V m)
act again f.loop name annots ts typing args e d A V m = one_body args (λ us r. loop_run (again (turns us)) e d A V m)
act again f.loop_left name annots ts typing args e d A V m =
    one_body args (λ us r. loop_left_run (again (left_turns us)) e d A V m)
act again f.iter name annots ts typing args e d A V m = one_body args (λ us r. iter_run r e d A V m)
act again f.map name annots ts typing args e d A V m = one_body args (λ us r. map_run (result_kind us e.context) r e d A V m)
act again f.failwith name annots ts typing args e d A V m = no_body args (fail_run e d A V m)
act again f.never name annots ts typing args e d A V m = stuck
act again f.self name annots ts typing args e d A V m = self_run annots ts (typing e.context A) e d A V m
act again f.create_contract name annots ts typing args e d A V m = create_run ts (typing e.context A) e d A V m

abbrev pub named_run : (Task → Run) → Option Primitive → List (List ℕ) → Trees → Typer → List Arg → Run
named_run again name annots ts typing args e d A V m = act again (form_of name) name annots ts typing args e d A V m

-- ---- nodes

abbrev mutual
  -- one instruction; a sequence is a block
  pub tree_run : (Task → Run) → Tree → Run
  tree_run again (int n) e d A V m = stuck
  tree_run again (str s) e d A V m = stuck
  tree_run again (bytes b) e d A V m = stuck
  tree_run again (prim name annots ts) e d A V m =
      named_run again (primitive_of_name name) annots ts (tree_type (prim name annots ts)) (args_run again ts) e d A V m
  tree_run again (seq ts) e d A V m = block (trees_run again ts) e d A V m

  -- one after another
  pub trees_run : (Task → Run) → Trees → Run
  trees_run again none e d A V m = stack A V m
  trees_run again (more t ts) e d A V m = after (tree_run again t e d A V m) (trees_run again ts e d)

  pub args_run : (Task → Run) → Trees → List Arg
  args_run again none = []
  args_run again (more t ts) = arg_run again t ∷ args_run again ts

  pub arg_run : (Task → Run) → Tree → Arg
  arg_run again (seq ts) = body ts (λ e d A V m. block (trees_run again ts) e d A V m)
  arg_run again t = other

abbrev pub task_run : (Task → Run) → Task → Run
task_run again (node t) e d A V m = tree_run again t e d A V m
task_run again (turns ts) e d A V m = turns_run (again (turns ts)) (λ e d A V m. block (trees_run again ts) e d A V m) e d A V m
task_run again (left_turns ts) e d A V m =
    left_turns_run (again (left_turns ts)) (λ e d A V m. block (trees_run again ts) e d A V m) e d A V m

-- ---- the whole

-- The evaluation up to a level. Each call and each turn of a loop is charged before it, and costs at least 1, so that a
-- level above the gas is never passed.
abbrev pub level : ℕ → Task → Run
level zero t e d A V m = failed failure.out_of_gas
level (suc k) t e d A V m = task_run (level k) t e d A V m

abbrev pub eval_task : Task → Run
eval_task t e d A V m = level (suc m.gas) t e d A V m

-- the outcome of a node: a recursion on the gas first, and on the node second
abbrev pub eval : Tree → Run
eval t e d A V m = eval_task (node t) e d A V m
