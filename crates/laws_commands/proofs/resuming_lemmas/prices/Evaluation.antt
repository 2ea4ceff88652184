-- An evaluation sees of a table of prices only the price of each kind.
use Rattle.std.proofs.Common.{◌≡◌, ℕ, zero, suc, List, [], ◌∷◌, Option, refl, ◌∙◌}
use Rattle.rules_text.specs.nodes.Tree.{Tree, int, str, bytes, prim, seq, Trees, none, more}
use Rattle.rules_text.specs.nodes.Primitives.{primitive_of_name}
use Rattle.rules_text.specs.declared.nodes.Primitive.{Primitive}
use Rattle.rules_data.specs.types.Kind.{Kind}
use Rattle.rules_data.specs.values.Val.{Val}
use Rattle.rules_code.specs.instructions.Context.{Context}
use Rattle.rules_code.specs.instructions.Rules.{rule}
use Rattle.rules_code.specs.instructions.Control.{dip_of}
use Rattle.rules_code.specs.instructions.Forms.{Form, form_of}
use Rattle.rules_code.specs.instructions.Forms as f
use Rattle.rules_code.specs.typing.Typing.{Typer}
use Rattle.rules_code.specs.typing.Nodes.{tree_type}
use Rattle.rules_code.specs.evaluation.Surroundings.{Surroundings}
use Rattle.rules_code.specs.evaluation.Operations.{Tally}
use Rattle.rules_code.specs.evaluation.Outcome.{Outcome, Run, after, block}
use Rattle.rules_code.specs.evaluation.Branches.{if_run, if_none_run, if_left_run, if_cons_run, dip_run}
use Rattle.rules_code.specs.evaluation.Loops.{turns_run, left_turns_run, loop_run, loop_left_run, iter_run, map_run}
use Rattle.rules_code.specs.evaluation.Given.{on_found}
use Rattle.rules_code.specs.evaluation.Evaluation.{Task, node, turns, left_turns, Arg, body, other, no_body, one_body, two_bodies, last_body, outside_views, result_kind, act, tree_run, trees_run, args_run, arg_run, task_run, level, eval}
use Rattle.laws_commands.proofs.resuming_lemmas.prices.Plain.{plainly, moved, IsBlind}
use Rattle.laws_commands.proofs.resuming_lemmas.prices.Instructions.{block_same, if_same, if_none_same, if_left_same, if_cons_same, dip_same, loop_same, loop_left_same, turns_same, left_turns_same, exec_same, iter_same, map_same, ruled_same}

-- ---- arguments

abbrev moved_arg : Arg → Arg
moved_arg (body ts r) = body ts (moved r)
moved_arg other = other

abbrev moved_args : List Arg → List Arg
moved_args [] = []
moved_args (x ∷ xs) = moved_arg x ∷ moved_args xs

no_body_same : (args : List Arg) (o p : Outcome) → o ≡ p → no_body args o ≡ no_body (moved_args args) p
no_body_same [] o p h = h
no_body_same (x ∷ xs) o p h = refl

one_body_same : (args : List Arg) (go next : Trees → Run → Outcome) → ((ts : Trees) (r : Run) → go ts r ≡ next ts (moved r)) →
    one_body args go ≡ one_body (moved_args args) next
one_body_same [] go next h = refl
one_body_same (body ts r ∷ []) go next h = h ts r
one_body_same (other ∷ []) go next h = refl
one_body_same (body ts r ∷ y ∷ ys) go next h = refl
one_body_same (other ∷ y ∷ ys) go next h = refl

two_bodies_same : (args : List Arg) (go next : Run → Run → Outcome) → ((r s : Run) → go r s ≡ next (moved r) (moved s)) →
    two_bodies args go ≡ two_bodies (moved_args args) next
two_bodies_same [] go next h = refl
two_bodies_same (other ∷ xs) go next h = refl
two_bodies_same (body ts r ∷ []) go next h = refl
two_bodies_same (body ts r ∷ other ∷ xs) go next h = refl
two_bodies_same (body ts r ∷ body us s ∷ []) go next h = h r s
two_bodies_same (body ts r ∷ body us s ∷ x ∷ xs) go next h = refl

last_body_same : (args : List Arg) (go next : Run → Outcome) → ((r : Run) → go r ≡ next (moved r)) →
    last_body args go ≡ last_body (moved_args args) next
last_body_same [] go next h = refl
last_body_same (body ts r ∷ []) go next h = h r
last_body_same (other ∷ []) go next h = refl
last_body_same (body ts r ∷ y ∷ xs) go next h = last_body_same (y ∷ xs) go next h
last_body_same (other ∷ y ∷ xs) go next h = last_body_same (y ∷ xs) go next h

outside_same : (c : Context) (o p : Outcome) → o ≡ p → outside_views c o ≡ outside_views c p
outside_same c o p h = λ k. outside_views c (h k)

-- ---- one instruction

act_same : (again : Task → Run) (form : Form) (name : Option Primitive) (annots : List (List ℕ)) (ts : Trees) (typing : Typer)
    (args : List Arg)
    (e : Surroundings) (d : ℕ) (A : List Kind) (V : List Val) (m : Tally) →
    act again form name annots ts typing args (plainly e) d A V m ≡ act (λ t. moved (again t)) form name annots ts typing
    (moved_args args) e d A V m
act_same again f.straight name annots ts typing args e d A V m = ruled_same (λ t. again (node t)) (rule name annots ts A) e d A V m
act_same again f.transfer name annots ts typing args e d A V m =
    outside_same e.context _ _ (ruled_same (λ t. again (node t)) (rule name annots ts A) e d A V m)
act_same again f.push name annots ts typing args e d A V m = refl
act_same again f.dip name annots ts typing args e d A V m = λ k.
    on_found (dip_of ts) (λ n. last_body_same args (λ r. dip_run n r (plainly e) d A V m) (λ r. dip_run n r e d A V m)
    (λ r. dip_same e d A V m n r) k)
act_same again f.lambda name annots ts typing args e d A V m = refl
act_same again f.lambda_rec name annots ts typing args e d A V m = refl
act_same again f.exec name annots ts typing args e d A V m =
    no_body_same args _ _ (exec_same e d A V m (λ t. again (node t)))
act_same again f.apply name annots ts typing args e d A V m = no_body_same args _ _ refl
act_same again f.if_bool name annots ts typing args e d A V m =
    two_bodies_same args (λ r s. if_run r s (plainly e) d A V m) (λ r s. if_run r s e d A V m) (λ r s. if_same e d A V m r s)
act_same again f.if_none name annots ts typing args e d A V m =
    two_bodies_same args (λ r s. if_none_run r s (plainly e) d A V m) (λ r s. if_none_run r s e d A V m) (λ r s. if_none_same e d A V m r s)
act_same again f.if_left name annots ts typing args e d A V m =
    two_bodies_same args (λ r s. if_left_run r s (plainly e) d A V m) (λ r s. if_left_run r s e d A V m) (λ r s. if_left_same e d A V m r s)
act_same again f.if_cons name annots ts typing args e d A V m =
    two_bodies_same args (λ r s. if_cons_run r s (plainly e) d A V m) (λ r s. if_cons_run r s e d A V m) (λ r s. if_cons_same e d A V m r s)
act_same again f.loop name annots ts typing args e d A V m =
    one_body_same args (λ us r. loop_run (again (turns us)) (plainly e) d A V m) (λ us r. loop_run (moved (again (turns us))) e d A V m)
    (λ us r. loop_same e d A V m (again (turns us)))
act_same again f.loop_left name annots ts typing args e d A V m =
    one_body_same args (λ us r. loop_left_run (again (left_turns us)) (plainly e) d A V m)
    (λ us r. loop_left_run (moved (again (left_turns us))) e d A V m)
    (λ us r. loop_left_same e d A V m (again (left_turns us)))
act_same again f.iter name annots ts typing args e d A V m =
    one_body_same args (λ us r. iter_run r (plainly e) d A V m) (λ us r. iter_run r e d A V m) (λ us r. iter_same e d A V m r)
act_same again f.map name annots ts typing args e d A V m =
    one_body_same args (λ us r. map_run (result_kind us e.context) r (plainly e) d A V m)
    (λ us r. map_run (result_kind us e.context) r e d A V m)
    (λ us r. map_same e d A V m (result_kind us e.context) r)
act_same again f.failwith name annots ts typing args e d A V m = no_body_same args _ _ refl
act_same again f.never name annots ts typing args e d A V m = refl
act_same again f.self name annots ts typing args e d A V m = refl
act_same again f.create_contract name annots ts typing args e d A V m = refl

-- ---- nodes

module _ (again : Task → Run) (blind : (t : Task) → IsBlind (again t)) where
  all_blind : (λ (t : Task). moved (again t)) ≡ again
  all_blind = λ k. λ t. blind t k

  mutual
    tree_blind : (t : Tree) (e : Surroundings) (d : ℕ) (A : List Kind) (V : List Val) (m : Tally) →
        tree_run again t (plainly e) d A V m ≡ tree_run again t e d A V m
    tree_blind (int n) e d A V m = refl
    tree_blind (str s) e d A V m = refl
    tree_blind (bytes b) e d A V m = refl
    tree_blind (prim name annots ts) e d A V m =
        act_same again (form_of (primitive_of_name name)) (primitive_of_name name) annots ts (tree_type (prim name annots ts))
        (args_run again ts) e d A V m
        ∙ (λ k. act (all_blind k) (form_of (primitive_of_name name)) (primitive_of_name name) annots ts (tree_type (prim name annots ts))
        (args_blind ts k) e d A V m)
    tree_blind (seq ts) e d A V m =
        block_same e d A V m (trees_run again ts) ∙ (λ k. block (λ e d A V m. trees_blind ts e d A V m k) e d A V m)

    trees_blind : (ts : Trees) (e : Surroundings) (d : ℕ) (A : List Kind) (V : List Val) (m : Tally) →
        trees_run again ts (plainly e) d A V m ≡ trees_run again ts e d A V m
    trees_blind none e d A V m = refl
    trees_blind (more t ts) e d A V m = λ k. after (tree_blind t e d A V m k) (λ B W n. trees_blind ts e d B W n k)

    args_blind : (ts : Trees) → moved_args (args_run again ts) ≡ args_run again ts
    args_blind none = refl
    args_blind (more t ts) = λ k. arg_blind t k ∷ args_blind ts k

    arg_blind : (t : Tree) → moved_arg (arg_run again t) ≡ arg_run again t
    arg_blind (int n) = refl
    arg_blind (str s) = refl
    arg_blind (bytes b) = refl
    arg_blind (prim name annots ts) = refl
    arg_blind (seq ts) =
        (λ k. body ts (λ e d A V m. block_same e d A V m (trees_run again ts) k))
        ∙ (λ k. body ts (λ e d A V m. block (λ e d A V m. trees_blind ts e d A V m k) e d A V m))

  block_blind : (ts : Trees) → moved (block (trees_run again ts)) ≡ block (trees_run again ts)
  block_blind ts =
      (λ k. λ e d A V m. block_same e d A V m (trees_run again ts) k) ∙ (λ k. block (λ e d A V m. trees_blind ts e d A V m k))

  task_blind : (t : Task) (e : Surroundings) (d : ℕ) (A : List Kind) (V : List Val) (m : Tally) →
      task_run again t (plainly e) d A V m ≡ task_run again t e d A V m
  task_blind (node t) e d A V m = tree_blind t e d A V m
  task_blind (turns ts) e d A V m =
      turns_same e d A V m (again (turns ts)) (block (trees_run again ts))
      ∙ (λ k. turns_run (blind (turns ts) k) (block_blind ts k) e d A V m)
  task_blind (left_turns ts) e d A V m =
      left_turns_same e d A V m (again (left_turns ts)) (block (trees_run again ts))
      ∙ (λ k. left_turns_run (blind (left_turns ts) k) (block_blind ts k) e d A V m)

-- ---- the whole

level_blind : (n : ℕ) (t : Task) → IsBlind (level n t)
level_blind zero t = refl
level_blind (suc n) t = λ k. λ e d A V m. task_blind (level n) (level_blind n) t e d A V m k

pub eval_blind : (t : Tree) (e : Surroundings) (d : ℕ) (A : List Kind) (V : List Val) (m : Tally) →
    eval t (plainly e) d A V m ≡ eval t e d A V m
eval_blind t e d A V m = λ k. level_blind (suc m.gas) (node t) k e d A V m
