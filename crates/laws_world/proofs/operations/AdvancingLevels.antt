-- Evaluation advances, at each level.
use Rattle.std.proofs.Common.{ℕ, zero, suc, true, false, List, [], ◌∷◌}
use Rattle.std.specs.declared.option.Option.{Option}
use Rattle.rules_text.specs.nodes.Tree.{Tree, int, str, bytes, prim, seq, Trees, none, more}
use Rattle.rules_text.specs.nodes.Primitives.{primitive_of_name}
use Rattle.rules_text.specs.declared.nodes.Primitive.{Primitive}
use Rattle.rules_data.specs.types.Kind.{Kind}
use Rattle.rules_code.specs.instructions.Context.{Context, main, view, lambda}
use Rattle.rules_code.specs.instructions.Rules.{rule}
use Rattle.rules_code.specs.instructions.Control.{dip_of}
use Rattle.rules_code.specs.instructions.Forms.{Form, form_of}
use Rattle.rules_code.specs.instructions.Forms as f
use Rattle.rules_data.specs.values.Val.{Val}
use Rattle.rules_code.specs.typing.Typing.{Typer}
use Rattle.rules_code.specs.typing.Nodes.{tree_type}
use Rattle.rules_code.specs.evaluation.Surroundings.{Surroundings}
use Rattle.rules_code.specs.evaluation.Operations.{Tally}
use Rattle.rules_code.specs.evaluation.Outcome.{Outcome, Run}
use Rattle.rules_code.specs.evaluation.Evaluation.{Task, node, turns, left_turns, Arg, body, other, no_body, one_body, two_bodies, last_body, outside_views, result_kind, act, tree_run, trees_run, args_run, arg_run, task_run, level}
use Rattle.laws_world.specs.operations.NewOperations.{Advances, AdvancesTo, OperationsAreNew}
use Rattle.laws_world.proofs.operations.Advances.{advances_nothing, to_after, to_block, AdvancingRun}
use Rattle.laws_world.proofs.operations.AdvancingStacks.{to_found, to_if, to_if_none, to_if_left, to_if_cons, to_dip, to_turns, to_left_turns, to_loop, to_loop_left, to_iter, to_map}
use Rattle.laws_world.proofs.operations.AdvancingForms.{to_exec, to_apply, to_fail, to_push, to_lambda, to_self, to_create_contract, to_ruled}

-- ---- arguments

abbrev AdvancingArg : Arg → Type 0
AdvancingArg (body ts r) = AdvancingRun r
AdvancingArg other = Unit {0}

abbrev AdvancingArgs : List Arg → Type 0
AdvancingArgs [] = Unit {0}
AdvancingArgs (x ∷ us) = AdvancingArg x × AdvancingArgs us

module _ (g : ℕ) (s : Tally) where
  to_no_body : (us : List Arg) (o : Outcome) → AdvancesTo g s o → AdvancesTo g s (no_body us o)
  to_no_body [] o h = h
  to_no_body (x ∷ us) o h = tt

  to_one_body : (us : List Arg) (p : Trees → Run → Outcome) → AdvancingArgs us →
      ((ts : Trees) (r : Run) → AdvancingRun r → AdvancesTo g s (p ts r)) → AdvancesTo g s (one_body us p)
  to_one_body [] p h n = tt
  to_one_body (other ∷ us) p h n = tt
  to_one_body (body ts r ∷ []) p h n = n ts r h.0
  to_one_body (body ts r ∷ x ∷ us) p h n = tt

  to_two_bodies : (us : List Arg) (p : Run → Run → Outcome) → AdvancingArgs us →
      ((r q : Run) → AdvancingRun r → AdvancingRun q → AdvancesTo g s (p r q)) → AdvancesTo g s (two_bodies us p)
  to_two_bodies [] p h n = tt
  to_two_bodies (other ∷ us) p h n = tt
  to_two_bodies (body ts r ∷ []) p h n = tt
  to_two_bodies (body ts r ∷ other ∷ us) p h n = tt
  to_two_bodies (body ts r ∷ body us q ∷ []) p h n = n r q h.0 h.1.0
  to_two_bodies (body ts r ∷ body us q ∷ x ∷ ws) p h n = tt

  to_last_body : (us : List Arg) (p : Run → Outcome) → AdvancingArgs us → ((r : Run) → AdvancingRun r → AdvancesTo g s (p r)) →
      AdvancesTo g s (last_body us p)
  to_last_body [] p h n = tt
  to_last_body (other ∷ []) p h n = tt
  to_last_body (body ts r ∷ []) p h n = n r h.0
  to_last_body (other ∷ x ∷ us) p h n = to_last_body (x ∷ us) p h.1 n
  to_last_body (body ts r ∷ x ∷ us) p h n = to_last_body (x ∷ us) p h.1 n

  to_outside : (c : Context) (o : Outcome) → AdvancesTo g s o → AdvancesTo g s (outside_views c o)
  to_outside (main es) o h = h
  to_outside view o h = tt
  to_outside lambda o h = h

-- ---- instructions and nodes

module _ (p : Task → Run) (n : (x : Task) → AdvancingRun (p x)) where
  module _ (e : Surroundings) (d : ℕ) (s m : Tally) (a : Advances e.group s m) where
    to_act : (form : Form) (name : Option Primitive) (annots : List (List ℕ)) (ts : Trees) (typing : Typer) (us : List Arg)
        (A : List Kind) (V : List Val) → AdvancingArgs us →
        AdvancesTo e.group s (act p form name annots ts typing us e d A V m)
    to_act f.straight name annots ts typing us A V h = to_ruled _ (λ x. n (node x)) e d s m a (rule name annots ts A) A V
    to_act f.transfer name annots ts typing us A V h = to_outside e.group s e.context _
        (to_ruled _ (λ x. n (node x)) e d s m a (rule name annots ts A) A V)
    to_act f.push name annots ts typing us A V h = to_push e d s m a ts (typing e.context A) A V
    to_act f.dip name annots ts typing us A V h = to_found e.group s (dip_of ts) _
        (λ i. to_last_body e.group s us _ h (λ r u. to_dip e d s m a i A V r u))
    to_act f.lambda name annots ts typing us A V h = to_lambda e d s m a _ false ts (typing e.context A) A V
    to_act f.lambda_rec name annots ts typing us A V h = to_lambda e d s m a _ true ts (typing e.context A) A V
    to_act f.exec name annots ts typing us A V h = to_no_body e.group s us _ (to_exec e d s m a A V _ (λ x. n (node x)))
    to_act f.apply name annots ts typing us A V h = to_no_body e.group s us _ (to_apply e d s m a A V)
    to_act f.if_bool name annots ts typing us A V h = to_two_bodies e.group s us _ h (λ r q u w. to_if e d s m a A V r q u w)
    to_act f.if_none name annots ts typing us A V h = to_two_bodies e.group s us _ h (λ r q u w. to_if_none e d s m a A V r q u w)
    to_act f.if_left name annots ts typing us A V h = to_two_bodies e.group s us _ h (λ r q u w. to_if_left e d s m a A V r q u w)
    to_act f.if_cons name annots ts typing us A V h = to_two_bodies e.group s us _ h (λ r q u w. to_if_cons e d s m a A V r q u w)
    to_act f.loop name annots ts typing us A V h = to_one_body e.group s us _ h (λ is r u. to_loop e d s m a A V _ (n (turns is)))
    to_act f.loop_left name annots ts typing us A V h = to_one_body e.group s us _ h
        (λ is r u. to_loop_left e d s m a A V _ (n (left_turns is)))
    to_act f.iter name annots ts typing us A V h = to_one_body e.group s us _ h (λ is r u. to_iter e d s A V m a r u)
    to_act f.map name annots ts typing us A V h = to_one_body e.group s us _ h
        (λ is r u. to_map e d s (result_kind is e.context) A V m a r u)
    to_act f.failwith name annots ts typing us A V h = to_no_body e.group s us _ (to_fail e d s m a A V)
    to_act f.never name annots ts typing us A V h = tt
    to_act f.self name annots ts typing us A V h = to_self e d s m a annots ts (typing e.context A) A V
    to_act f.create_contract name annots ts typing us A V h = to_create_contract e d s m a ts (typing e.context A) A V

  mutual
    to_tree : (x : Tree) → AdvancingRun (tree_run p x)
    to_tree (int z) e d A V s m a = tt
    to_tree (str b) e d A V s m a = tt
    to_tree (bytes b) e d A V s m a = tt
    to_tree (prim name annots ts) e d A V s m a =
        to_act e d s m a (form_of (primitive_of_name name)) (primitive_of_name name) annots ts
        (tree_type (prim name annots ts)) (args_run p ts) A V (to_args ts)
    to_tree (seq ts) e d A V s m a = to_block (trees_run p ts) (to_trees ts) e d A V s m a

    to_trees : (ts : Trees) → AdvancingRun (trees_run p ts)
    to_trees none e d A V s m a = a
    to_trees (more t ts) e d A V s m a = to_after e.group s _ _ (to_tree t e d A V s m a) (λ B W j c. to_trees ts e d B W s j c)

    to_args : (ts : Trees) → AdvancingArgs (args_run p ts)
    to_args none = tt
    to_args (more t ts) = (to_arg t, to_args ts)

    to_arg : (x : Tree) → AdvancingArg (arg_run p x)
    to_arg (int z) = tt
    to_arg (str b) = tt
    to_arg (bytes b) = tt
    to_arg (prim name annots ts) = tt
    to_arg (seq ts) = to_block (trees_run p ts) (to_trees ts)

  to_task : (x : Task) → AdvancingRun (task_run p x)
  to_task (node t) e d A V s m a = to_tree t e d A V s m a
  to_task (turns ts) e d A V s m a = to_turns e d s m a A V (p (turns ts)) _ (n (turns ts))
      (to_block (trees_run p ts) (to_trees ts))
  to_task (left_turns ts) e d A V s m a = to_left_turns e d s m a A V (p (left_turns ts)) _ (n (left_turns ts))
      (to_block (trees_run p ts) (to_trees ts))

-- ---- levels

to_level : (k : ℕ) (x : Task) → AdvancingRun (level k x)
to_level zero x e d A V s m a = tt
to_level (suc k) x e d A V s m a = to_task (level k) (to_level k) x e d A V s m a

pub operations_are_new : OperationsAreNew
operations_are_new t e d A V m = to_level (suc m.gas) (node t) e d A V m m (advances_nothing e.group m)
