-- Nodes of all forms, and the whole evaluation.
use Rattle.std.proofs.Common.{ℕ, zero, suc, List, [], ◌∷◌, Option}
use Rattle.std.specs.Prelude.{slice_get, ◌-◌}
use Rattle.rules_text.specs.nodes.Tree.{Tree, int, str, bytes, prim, seq, Trees, none, more}
use Rattle.rules_text.specs.nodes.Primitives.{primitive_of_name}
use Rattle.rules_text.specs.declared.nodes.Primitive.{Primitive}
use Rattle.rules_code.specs.instructions.Context.{Context}
use Rattle.rules_code.specs.instructions.Context as place
use Rattle.rules_code.specs.instructions.Control.{dip_of}
use Rattle.rules_code.specs.instructions.Forms.{Form, form_of}
use Rattle.rules_code.specs.instructions.Forms as f
use Rattle.rules_code.specs.instructions.Rules.{rule}
use Rattle.rules_data.specs.values.Val.{Val}
use Rattle.rules_code.specs.typing.Typing.{shift}
use Rattle.rules_code.specs.typing.Acts.{Meanings, act_type}
use Rattle.rules_code.specs.typing.Nodes.{typing_of, typings, bodies, script_in}
use Rattle.rules_code.specs.evaluation.Operations.{Tally}
use Rattle.rules_code.specs.evaluation.Outcome.{Outcome, stack, failed, stuck, Run}
use Rattle.rules_code.specs.evaluation.Branches.{dip_run}
use Rattle.rules_code.specs.evaluation.Evaluation.{Task, node, turns, left_turns, Arg, body, other, no_body, one_body, two_bodies, last_body, outside_views, result_kind, act, tree_run, trees_run, args_run, task_run, level, eval}
use Rattle.laws_tickets.specs.runs.Laws.{KeepsTotal, EvaluationKeepsTotals}
use Rattle.laws_tickets.proofs.totals.ForCallers.{rule_is}
use Rattle.laws_tickets.proofs.runs_lemmas.Stands.{Aim, Keeps, KeepsRun, here, stands_here, keeps_after, keeps_found, keeps_block}
use Rattle.laws_tickets.proofs.runs_lemmas.Shapes.{keeps_if, keeps_if_none, keeps_if_left, keeps_if_cons, keeps_dip}
use Rattle.laws_tickets.proofs.runs_lemmas.Loops.{keeps_turns, keeps_left_turns, keeps_loop, keeps_loop_left, keeps_iter}
use Rattle.laws_tickets.proofs.runs_lemmas.Mapping.{keeps_map}
use Rattle.laws_tickets.proofs.runs_lemmas.Calls.{keeps_exec, keeps_apply, keeps_fail}
use Rattle.laws_tickets.proofs.runs_lemmas.Given.{keeps_push, keeps_lambda, keeps_lambda_rec, keeps_self, keeps_create}
use Rattle.laws_tickets.proofs.runs_lemmas.Operating.{ruled_keeps}

-- ---- arguments

abbrev ArgsKeep : List Arg → Type 0
ArgsKeep [] = Unit {0}
ArgsKeep (body ts r ∷ args) = KeepsRun r × ArgsKeep args
ArgsKeep (other ∷ args) = ArgsKeep args

keeps_no_body : (p : Aim) (args : List Arg) (o : Outcome) → Keeps p o → Keeps p (no_body args o)
keeps_no_body p [] o h = h
keeps_no_body p (x ∷ args) o h = tt

keeps_one_body : (p : Aim) (args : List Arg) (go : Trees → Run → Outcome) → ArgsKeep args →
    ((ts : Trees) (r : Run) → KeepsRun r → Keeps p (go ts r)) → Keeps p (one_body args go)
keeps_one_body p (body ts r ∷ []) go a h = h ts r a.0
keeps_one_body p [] go a h = tt
keeps_one_body p (body ts r ∷ x ∷ args) go a h = tt
keeps_one_body p (other ∷ args) go a h = tt

keeps_two_bodies : (p : Aim) (args : List Arg) (go : Run → Run → Outcome) → ArgsKeep args →
    ((r s : Run) → KeepsRun r → KeepsRun s → Keeps p (go r s)) → Keeps p (two_bodies args go)
keeps_two_bodies p (body ts r ∷ body us s ∷ []) go a h = h r s a.0 a.1.0
keeps_two_bodies p [] go a h = tt
keeps_two_bodies p (other ∷ args) go a h = tt
keeps_two_bodies p (body ts r ∷ []) go a h = tt
keeps_two_bodies p (body ts r ∷ other ∷ args) go a h = tt
keeps_two_bodies p (body ts r ∷ body us s ∷ x ∷ args) go a h = tt

keeps_last_body : (p : Aim) (args : List Arg) (go : Run → Outcome) → ArgsKeep args → ((r : Run) → KeepsRun r → Keeps p (go r)) →
    Keeps p (last_body args go)
keeps_last_body p [] go a h = tt
keeps_last_body p (body ts r ∷ []) go a h = h r a.0
keeps_last_body p (other ∷ []) go a h = tt
keeps_last_body p (body ts r ∷ y ∷ args) go a h = keeps_last_body p (y ∷ args) go a.1 h
keeps_last_body p (other ∷ y ∷ args) go a h = keeps_last_body p (y ∷ args) go a h

keeps_outside : (p : Aim) (c : Context) (o : Outcome) → Keeps p o → Keeps p (outside_views c o)
keeps_outside p place.view o h = tt
keeps_outside p (place.main es) o h = h
keeps_outside p place.lambda o h = h

-- ---- forms

module _ (again : Task → Run) (later : (t : Task) → KeepsRun (again t)) where
  keeps_act : (form : Form) (name : Option Primitive) (annots : List (List ℕ)) (ts : Trees) (w : Meanings) (args : List Arg) →
      ArgsKeep args → KeepsRun (act again form name annots ts (λ c A. act_type form name annots ts w c A) args)
  keeps_act f.straight name annots ts w args a e d A V m p sees s =
      ruled_keeps (λ t. again (node t)) (λ t. later (node t)) (rule name annots ts A) e d A V m p sees
      (rule_is name annots ts A) s
  keeps_act f.transfer name annots ts w args a e d A V m p sees s =
      keeps_outside p e.context _ (ruled_keeps (λ t. again (node t)) (λ t. later (node t))
      (rule name annots ts A) e d A V m p sees (rule_is name annots ts A) s)
  keeps_act f.push name annots ts w args a e d A V m p sees s = keeps_push name annots ts w e d A V m p sees s
  keeps_act f.dip name annots ts w args a e d A V m p sees s =
      keeps_found p (dip_of ts) (λ n. last_body args (λ r. dip_run n r e d A V m))
      (λ n i. keeps_last_body p args (λ r. dip_run n r e d A V m) a (λ r h. keeps_dip n r h e d A V m p sees s))
  keeps_act f.lambda name annots ts w args a e d A V m p sees s = keeps_lambda name annots ts w e d A V m p sees s
  keeps_act f.lambda_rec name annots ts w args a e d A V m p sees s = keeps_lambda_rec name annots ts w e d A V m p sees s
  keeps_act f.exec name annots ts w args a e d A V m p sees s =
      keeps_no_body p args _ (keeps_exec (λ t. again (node t)) (λ t. later (node t)) e d A V m p sees s)
  keeps_act f.apply name annots ts w args a e d A V m p sees s = keeps_no_body p args _ (keeps_apply e d A V m p sees s)
  keeps_act f.if_bool name annots ts w args a e d A V m p sees s =
      keeps_two_bodies p args _ a (λ r q h i. keeps_if r q h i e d A V m p sees s)
  keeps_act f.if_none name annots ts w args a e d A V m p sees s =
      keeps_two_bodies p args _ a (λ r q h i. keeps_if_none r q h i e d A V m p sees s)
  keeps_act f.if_left name annots ts w args a e d A V m p sees s =
      keeps_two_bodies p args _ a (λ r q h i. keeps_if_left r q h i e d A V m p sees s)
  keeps_act f.if_cons name annots ts w args a e d A V m p sees s =
      keeps_two_bodies p args _ a (λ r q h i. keeps_if_cons r q h i e d A V m p sees s)
  keeps_act f.loop name annots ts w args a e d A V m p sees s =
      keeps_one_body p args _ a (λ us r h. keeps_loop (again (turns us)) (later (turns us)) e d A V m p sees s)
  keeps_act f.loop_left name annots ts w args a e d A V m p sees s =
      keeps_one_body p args _ a (λ us r h. keeps_loop_left (again (left_turns us)) (later (left_turns us)) e d A V m p sees s)
  keeps_act f.iter name annots ts w args a e d A V m p sees s =
      keeps_one_body p args _ a (λ us r h. keeps_iter r h e d A V m p sees s)
  keeps_act f.map name annots ts w args a e d A V m p sees s =
      keeps_one_body p args _ a (λ us r h. keeps_map (result_kind us e.context) r h e d A V m p sees s)
  keeps_act f.failwith name annots ts w args a e d A V m p sees s = keeps_no_body p args _ (keeps_fail e d A V m p sees s)
  keeps_act f.never name annots ts w args a e d A V m p sees s = tt
  keeps_act f.self name annots ts w args a e d A V m p sees s = keeps_self name annots ts w e d A V m p sees s
  keeps_act f.create_contract name annots ts w args a e d A V m p sees s = keeps_create name annots ts w e d A V m p sees s

  -- ---- nodes

  mutual
    keeps_tree : (t : Tree) → KeepsRun (tree_run again t)
    keeps_tree (int n) e d A V m p sees s = tt
    keeps_tree (str b) e d A V m p sees s = tt
    keeps_tree (bytes b) e d A V m p sees s = tt
    keeps_tree (prim name annots ts) e d A V m p sees s =
        keeps_act (form_of (primitive_of_name name)) (primitive_of_name name) annots ts
        (record {
          bodies = bodies ts 1;
          script = λ at. script_in ts at;
          typing_at = λ l c A. shift l (typing_of (slice_get (typings ts) (l - 1)) c A);
        })
        (args_run again ts) (keeps_args ts) e d A V m p sees s
    keeps_tree (seq ts) e d A V m p sees s = keeps_block (trees_run again ts) (keeps_trees ts) e d A V m p sees s

    keeps_trees : (ts : Trees) → KeepsRun (trees_run again ts)
    keeps_trees none e d A V m p sees s = s
    keeps_trees (more t ts) e d A V m p sees s =
        keeps_after p p (tree_run again t e d A V m) (trees_run again ts e d) (keeps_tree t e d A V m p sees s)
        (λ B W n q. keeps_trees ts e d B W n p sees q)

    keeps_args : (ts : Trees) → ArgsKeep (args_run again ts)
    keeps_args none = tt
    keeps_args (more (seq us) ts) = (keeps_block (trees_run again us) (keeps_trees us), keeps_args ts)
    keeps_args (more (int n) ts) = keeps_args ts
    keeps_args (more (str b) ts) = keeps_args ts
    keeps_args (more (bytes b) ts) = keeps_args ts
    keeps_args (more (prim name annots us) ts) = keeps_args ts

  keeps_task : (t : Task) → KeepsRun (task_run again t)
  keeps_task (node t) e d A V m p sees s = keeps_tree t e d A V m p sees s
  keeps_task (turns ts) e d A V m p sees s =
      keeps_turns (again (turns ts)) _ (later (turns ts)) (keeps_block (trees_run again ts) (keeps_trees ts)) e d A V m p sees s
  keeps_task (left_turns ts) e d A V m p sees s =
      keeps_left_turns (again (left_turns ts)) _ (later (left_turns ts))
      (keeps_block (trees_run again ts) (keeps_trees ts)) e d A V m p sees s

-- ---- the whole

keeps_level : (k : ℕ) (t : Task) → KeepsRun (level k t)
keeps_level zero t e d A V m p sees s = tt
keeps_level (suc k) t e d A V m p sees s = keeps_task (level k) (λ u. keeps_level k u) t e d A V m p sees s

pub keeps_eval : (t : Tree) → KeepsRun (eval t)
keeps_eval t e d A V m p sees s = keeps_level (suc m.gas) (node t) e d A V m p sees s

kept_total : (V : List Val) (m : Tally) (o : Outcome) → Keeps (here V m) o → KeepsTotal V m o
kept_total V m (stack B W n) s = (s.agree, s.numbers, s.same)
kept_total V m (failed x) s = tt
kept_total V m stuck s = tt

pub totals : EvaluationKeepsTotals
totals t e d A V m sees a = kept_total V m (eval t e d A V m) (keeps_eval t e d A V m (here V m) sees (stands_here A V m a))
