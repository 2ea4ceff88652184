-- Any level above the gas gives the outcome, and no outcome has more gas than there was.
use Rattle.std.proofs.Common.{◌≡◌, ℕ, zero, suc, ◌<◌, ◌≤◌, true, false, List, [], ◌∷◌, Option, arith}
use Rattle.rules_text.specs.nodes.Tree.{Tree, int, str, bytes, prim, seq, Trees, none, more}
use Rattle.rules_text.specs.nodes.Primitives.{primitive_of_name}
use Rattle.rules_text.specs.declared.nodes.Primitive.{Primitive}
use Rattle.rules_data.specs.types.Kind.{Kind}
use Rattle.rules_code.specs.instructions.Context.{Context, main, view, lambda}
use Rattle.rules_code.specs.instructions.Rules.{rule}
use Rattle.rules_code.specs.instructions.Control.{dip_of}
use Rattle.rules_code.specs.instructions.Forms.{Form, form_of}
use Rattle.rules_code.specs.instructions.Forms as f
use Rattle.rules_data.specs.values.Val.{Val}
use Rattle.rules_code.specs.typing.Typing.{Typer}
use Rattle.rules_code.specs.typing.Nodes.{tree_type}
use Rattle.rules_code.specs.evaluation.Surroundings.{Surroundings}
use Rattle.rules_code.specs.evaluation.Operations.{Tally}
use Rattle.rules_code.specs.evaluation.Outcome.{Outcome, Run}
use Rattle.rules_code.specs.evaluation.Evaluation.{Task, node, turns, left_turns, Arg, body, other, no_body, one_body, two_bodies, last_body, outside_views, result_kind, act, tree_run, trees_run, args_run, arg_run, task_run, level, eval_task}
use Rattle.laws_code.specs.evaluation.Laws.{IsCharged, LeftAtMost}
use Rattle.laws_code.proofs.evaluation_lemmas.Near.{Near, near_stuck, near_stack, near_weaker, NearRun, NearBelow, near_after, near_block}
use Rattle.laws_code.proofs.evaluation_lemmas.NearForms.{near_on_found, near_if, near_if_none, near_if_left, near_if_cons, near_dip, near_turns, near_left_turns, near_loop, near_loop_left, near_iter, near_map, near_exec, near_apply, near_fail, near_push, near_lambda, near_self, near_create, near_ruled}

-- two evaluations that are near with less gas
abbrev AgreeBelow : ℕ → (Task → Run) → (Task → Run) → Type 0
AgreeBelow g p q = (x : Task) → NearBelow g (p x) (q x)

agree_weaker : (g h : ℕ) (p q : Task → Run) → h ≤ g → AgreeBelow g p q → AgreeBelow h p q
agree_weaker g h p q le n x e c d A V m lt = n x e c d A V m (omega arith)

-- ---- arguments

-- the same argument, its runs near
data NearArg (g : ℕ) : Arg → Arg → Type 0 where
  near_body : (ts : Trees) (r r' : Run) → NearRun g r r' → NearArg g (body ts r) (body ts r')
  near_other : NearArg g other other

data NearArgs (g : ℕ) : List Arg → List Arg → Type 0 where
  near_none : NearArgs g [] []
  near_more : {a b : Arg} {us ws : List Arg} → NearArg g a b → NearArgs g us ws → NearArgs g (a ∷ us) (b ∷ ws)

near_no_body : (g : ℕ) (us ws : List Arg) (o o' : Outcome) → NearArgs g us ws → Near g o o' → Near g (no_body us o) (no_body ws o')
near_no_body g us ws o o' near_none n = n
near_no_body g us ws o o' (near_more a rest) n = near_stuck g

near_one_body : (g : ℕ) (us ws : List Arg) (p q : Trees → Run → Outcome) → NearArgs g us ws → ((ts : Trees) (r r' : Run) → NearRun g r r' → Near g (p ts r) (q ts r')) → Near g (one_body us p) (one_body ws q)
near_one_body g us ws p q near_none n = near_stuck g
near_one_body g us ws p q (near_more near_other rest) n = near_stuck g
near_one_body g us ws p q (near_more (near_body ts r r' h) near_none) n = n ts r r' h
near_one_body g us ws p q (near_more (near_body ts r r' h) (near_more a rest)) n = near_stuck g

near_two_bodies : (g : ℕ) (us ws : List Arg) (p q : Run → Run → Outcome) → NearArgs g us ws → ((r r' s s' : Run) → NearRun g r r' → NearRun g s s' → Near g (p r s) (q r' s')) → Near g (two_bodies us p) (two_bodies ws q)
near_two_bodies g us ws p q near_none n = near_stuck g
near_two_bodies g us ws p q (near_more near_other rest) n = near_stuck g
near_two_bodies g us ws p q (near_more (near_body ts r r' h) near_none) n = near_stuck g
near_two_bodies g us ws p q (near_more (near_body ts r r' h) (near_more near_other rest)) n = near_stuck g
near_two_bodies g us ws p q (near_more (near_body ts r r' h) (near_more (near_body js s s' h') near_none)) n = n r r' s s' h h'
near_two_bodies g us ws p q (near_more (near_body ts r r' h) (near_more (near_body js s s' h') (near_more a rest))) n = near_stuck g

near_last_body : (g : ℕ) (us ws : List Arg) (p q : Run → Outcome) → NearArgs g us ws → ((r r' : Run) → NearRun g r r' → Near g (p r) (q r')) → Near g (last_body us p) (last_body ws q)
near_last_body g us ws p q near_none n = near_stuck g
near_last_body g us ws p q (near_more near_other near_none) n = near_stuck g
near_last_body g us ws p q (near_more (near_body ts r r' h) near_none) n = n r r' h
near_last_body g us ws p q (near_more near_other (near_more b rest)) n = near_last_body g _ _ p q (near_more b rest) n
near_last_body g us ws p q (near_more (near_body ts r r' h) (near_more b rest)) n = near_last_body g _ _ p q (near_more b rest) n

near_outside : (g : ℕ) (c : Context) (o o' : Outcome) → Near g o o' → Near g (outside_views c o) (outside_views c o')
near_outside g (main es) o o' n = n
near_outside g view o o' n = near_stuck g
near_outside g lambda o o' n = n

-- ---- instructions and nodes

module _ (p q : Task → Run) (e : Surroundings) (c : IsCharged e.prices) (d : ℕ) (m : Tally) (n : AgreeBelow m.gas p q) where
  near_act : (form : Form) (name : Option Primitive) (annots : List (List ℕ)) (ts : Trees) (typing : Typer) (us ws : List Arg) (A : List Kind) (V : List Val) → NearArgs m.gas us ws → Near m.gas (act p form name annots ts typing us e d A V m) (act q form name annots ts typing ws e d A V m)
  near_act f.straight name annots ts typing us ws A V h = near_ruled e c d m _ _ (λ x. n (node x)) (rule name annots ts A) A V
  near_act f.transfer name annots ts typing us ws A V h = near_outside m.gas e.context _ _ (near_ruled e c d m _ _ (λ x. n (node x)) (rule name annots ts A) A V)
  near_act f.push name annots ts typing us ws A V h = near_push e c d m ts (typing e.context A) A V
  near_act f.dip name annots ts typing us ws A V h = near_on_found m.gas (dip_of ts) _ _ (λ i. near_last_body m.gas us ws _ _ h (λ r r' u. near_dip e c d m i A V r r' u))
  near_act f.lambda name annots ts typing us ws A V h = near_lambda e c d m _ false ts (typing e.context A) A V
  near_act f.lambda_rec name annots ts typing us ws A V h = near_lambda e c d m _ true ts (typing e.context A) A V
  near_act f.exec name annots ts typing us ws A V h = near_no_body m.gas us ws _ _ h (near_exec e c d m A V _ _ (λ x. n (node x)))
  near_act f.apply name annots ts typing us ws A V h = near_no_body m.gas us ws _ _ h (near_apply e c d m A V)
  near_act f.if_bool name annots ts typing us ws A V h = near_two_bodies m.gas us ws _ _ h (λ r r' s s' u u'. near_if e c d m A V r r' s s' u u')
  near_act f.if_none name annots ts typing us ws A V h = near_two_bodies m.gas us ws _ _ h (λ r r' s s' u u'. near_if_none e c d m A V r r' s s' u u')
  near_act f.if_left name annots ts typing us ws A V h = near_two_bodies m.gas us ws _ _ h (λ r r' s s' u u'. near_if_left e c d m A V r r' s s' u u')
  near_act f.if_cons name annots ts typing us ws A V h = near_two_bodies m.gas us ws _ _ h (λ r r' s s' u u'. near_if_cons e c d m A V r r' s s' u u')
  near_act f.loop name annots ts typing us ws A V h = near_one_body m.gas us ws _ _ h (λ is r r' u. near_loop e c d m A V _ _ (n (turns is)))
  near_act f.loop_left name annots ts typing us ws A V h = near_one_body m.gas us ws _ _ h (λ is r r' u. near_loop_left e c d m A V _ _ (n (left_turns is)))
  near_act f.iter name annots ts typing us ws A V h = near_one_body m.gas us ws _ _ h (λ is r r' u. near_iter e c d A V m r r' u)
  near_act f.map name annots ts typing us ws A V h = near_one_body m.gas us ws _ _ h (λ is r r' u. near_map e c d (result_kind is e.context) A V m r r' u)
  near_act f.failwith name annots ts typing us ws A V h = near_no_body m.gas us ws _ _ h (near_fail e c d m A V)
  near_act f.never name annots ts typing us ws A V h = near_stuck m.gas
  near_act f.self name annots ts typing us ws A V h = near_self e c d m annots ts (typing e.context A) A V
  near_act f.create_contract name annots ts typing us ws A V h = near_create e c d m ts (typing e.context A) A V

module _ (p q : Task → Run) where
  mutual
    near_tree : (x : Tree) (g : ℕ) → AgreeBelow g p q → (e : Surroundings) → IsCharged e.prices → (d : ℕ) (A : List Kind) (V : List Val) (m : Tally) → m.gas ≤ g → Near m.gas (tree_run p x e d A V m) (tree_run q x e d A V m)
    near_tree (int z) g n e c d A V m le = near_stuck m.gas
    near_tree (str s) g n e c d A V m le = near_stuck m.gas
    near_tree (bytes b) g n e c d A V m le = near_stuck m.gas
    near_tree (prim name annots ts) g n e c d A V m le =
        near_act p q e c d m (agree_weaker g m.gas p q le n) (form_of (primitive_of_name name)) (primitive_of_name name) annots ts (tree_type (prim name annots ts)) _ _ A V (near_args ts m.gas (agree_weaker g m.gas p q le n))
    near_tree (seq ts) g n e c d A V m le = near_block g (trees_run p ts) (trees_run q ts) (λ e c d A V i less. near_trees ts g n e c d A V i less) e c d A V m le

    near_trees : (ts : Trees) (g : ℕ) → AgreeBelow g p q → (e : Surroundings) → IsCharged e.prices → (d : ℕ) (A : List Kind) (V : List Val) (m : Tally) → m.gas ≤ g → Near m.gas (trees_run p ts e d A V m) (trees_run q ts e d A V m)
    near_trees none g n e c d A V m le = near_stack m.gas A V m (omega arith)
    near_trees (more t ts) g n e c d A V m le =
        near_after m.gas _ _ _ _ (near_tree t g n e c d A V m le) (λ B W i less. near_weaker i.gas m.gas _ _ less (near_trees ts g n e c d B W i (omega arith)))

    near_args : (ts : Trees) (g : ℕ) → AgreeBelow g p q → NearArgs g (args_run p ts) (args_run q ts)
    near_args none g n = near_none
    near_args (more t ts) g n = near_more (near_arg t g n) (near_args ts g n)

    near_arg : (x : Tree) (g : ℕ) → AgreeBelow g p q → NearArg g (arg_run p x) (arg_run q x)
    near_arg (int z) g n = near_other
    near_arg (str s) g n = near_other
    near_arg (bytes b) g n = near_other
    near_arg (prim name annots ts) g n = near_other
    near_arg (seq ts) g n = near_body ts _ _ (near_block g (trees_run p ts) (trees_run q ts) (λ e c d A V i le. near_trees ts g n e c d A V i le))

  near_task : (x : Task) (e : Surroundings) → IsCharged e.prices → (d : ℕ) (A : List Kind) (V : List Val) (m : Tally) → AgreeBelow m.gas p q → Near m.gas (task_run p x e d A V m) (task_run q x e d A V m)
  near_task (node t) e c d A V m n = near_tree t m.gas n e c d A V m (omega arith)
  near_task (turns ts) e c d A V m n =
      near_turns e c d m A V (p (turns ts)) (q (turns ts)) _ _ (n (turns ts)) (near_block m.gas (trees_run p ts) (trees_run q ts) (λ e c d A V i le. near_trees ts m.gas n e c d A V i le))
  near_task (left_turns ts) e c d A V m n =
      near_left_turns e c d m A V (p (left_turns ts)) (q (left_turns ts)) _ _ (n (left_turns ts)) (near_block m.gas (trees_run p ts) (trees_run q ts) (λ e c d A V i le. near_trees ts m.gas n e c d A V i le))

-- ---- levels

near_levels : (j k : ℕ) (x : Task) (e : Surroundings) → IsCharged e.prices → (d : ℕ) (A : List Kind) (V : List Val) (m : Tally) → m.gas < j → m.gas < k → Near m.gas (level j x e d A V m) (level k x e d A V m)
near_levels zero k x e c d A V m lt lt' = absurd (omega arith)
near_levels (suc j) zero x e c d A V m lt lt' = absurd (omega arith)
near_levels (suc j) (suc k) x e c d A V m lt lt' =
    near_task (level j) (level k) x e c d A V m (λ y e c d A V i less. near_levels j k y e c d A V i (omega arith) (omega arith))

-- the evaluation is what one step of it says, with itself for what is left
pub eval_is : (x : Task) (e : Surroundings) → IsCharged e.prices → (d : ℕ) (A : List Kind) (V : List Val) (m : Tally) → eval_task x e d A V m ≡ task_run eval_task x e d A V m
eval_is x e c d A V m =
    (near_task (level m.gas) eval_task x e c d A V m (λ y e c d A V i less. near_levels m.gas (suc i.gas) y e c d A V i less (omega arith))).same

-- and it leaves no more gas than there was
pub eval_left : (x : Task) (e : Surroundings) → IsCharged e.prices → (d : ℕ) (A : List Kind) (V : List Val) (m : Tally) → LeftAtMost m.gas (eval_task x e d A V m)
eval_left x e c d A V m = (near_levels (suc m.gas) (suc m.gas) x e c d A V m (omega arith) (omega arith)).left
