-- Code makes lists longer by one item at most for each unit of gas.
use Rattle.std.proofs.Common.{◌≤◌, ◌<◌, ◌+◌, ◌-◌, ℕ, zero, suc, true, false, List, [], ◌∷◌, Option, arith}
use Rattle.rules_text.specs.nodes.Tree.{Tree, int, str, bytes, prim, seq, Trees, none, more, size, sizes}
use Rattle.rules_text.specs.nodes.Primitives.{primitive_of_name}
use Rattle.rules_text.specs.declared.nodes.Primitive.{Primitive}
use Rattle.rules_data.specs.types.Kind.{Kind}
use Rattle.rules_data.specs.values.Val.{Val}
use Rattle.rules_code.specs.instructions.Context.{Context, main, view, lambda}
use Rattle.rules_code.specs.instructions.Rules.{rule}
use Rattle.rules_code.specs.instructions.Control.{dip_of}
use Rattle.rules_code.specs.instructions.Forms.{Form, form_of}
use Rattle.rules_code.specs.instructions.Forms as f
use Rattle.rules_code.specs.typing.Typing.{Typer}
use Rattle.rules_code.specs.typing.Nodes.{tree_type}
use Rattle.rules_code.specs.evaluation.Surroundings.{Surroundings}
use Rattle.rules_code.specs.evaluation.Operations.{Tally}
use Rattle.rules_code.specs.evaluation.Outcome.{Outcome, Run, block}
use Rattle.rules_code.specs.evaluation.Evaluation.{Task, node, turns, left_turns, Arg, body, other, no_body, one_body, two_bodies, last_body, outside_views, result_kind, act, tree_run, trees_run, args_run, arg_run, task_run, level}
use Rattle.laws_commands.proofs.written_lemmas.evaluation.Tags.{rule_named}
use Rattle.laws_commands.specs.reached.Counted.{Begins, Ends, RunsAreCounted}
use Rattle.laws_commands.proofs.reached_lemmas.Outcomes.{same_gas, less_room, begins_again, EndsWell, EndsBelow, ends_after, ends_found, ends_block}
use Rattle.laws_commands.proofs.reached_lemmas.Forms.{run_if, run_if_none, run_if_left, run_if_cons, run_dip, run_turns, run_left_turns, run_loop, run_loop_left, run_iter, run_map, run_exec, run_apply, run_fail, run_push, run_lambda, run_self, run_create, run_ruled}
use Rattle.laws_commands.proofs.common.Numbers.{rises}

abbrev TaskSmall : ℕ → Task → Type 0
TaskSmall n (node t) = size t ≤ n
TaskSmall n (turns ts) = sizes ts ≤ n
TaskSmall n (left_turns ts) = sizes ts ≤ n

-- ---- arguments

data EndsArg (most g : ℕ) : Arg → Type 0 where
  ends_body : (ts : Trees) (r : Run) → sizes ts ≤ most - g → EndsWell most g r → EndsArg most g (body ts r)
  ends_other : EndsArg most g other

data EndsArgs (most g : ℕ) : List Arg → Type 0 where
  ends_none : EndsArgs most g []
  ends_more : {a : Arg} {us : List Arg} → EndsArg most g a → EndsArgs most g us → EndsArgs most g (a ∷ us)

module _ (most g : ℕ) where
  ends_no_body : (us : List Arg) (o : Outcome) → EndsArgs most g us → Ends most g o → Ends most g (no_body us o)
  ends_no_body us o ends_none n = n
  ends_no_body us o (ends_more a rest) n = tt

  ends_one_body : (us : List Arg) (p : Trees → Run → Outcome) → EndsArgs most g us → ((ts : Trees) (r : Run) → sizes ts ≤ most - g →
      EndsWell most g r → Ends most g (p ts r)) →
      Ends most g (one_body us p)
  ends_one_body us p ends_none n = tt
  ends_one_body us p (ends_more ends_other rest) n = tt
  ends_one_body us p (ends_more (ends_body ts r s h) ends_none) n = n ts r s h
  ends_one_body us p (ends_more (ends_body ts r s h) (ends_more a rest)) n = tt

  ends_two_bodies : (us : List Arg) (p : Run → Run → Outcome) → EndsArgs most g us → ((r s : Run) → EndsWell most g r →
      EndsWell most g s → Ends most g (p r s)) →
      Ends most g (two_bodies us p)
  ends_two_bodies us p ends_none n = tt
  ends_two_bodies us p (ends_more ends_other rest) n = tt
  ends_two_bodies us p (ends_more (ends_body ts r s h) ends_none) n = tt
  ends_two_bodies us p (ends_more (ends_body ts r s h) (ends_more ends_other rest)) n = tt
  ends_two_bodies us p (ends_more (ends_body ts r s h) (ends_more (ends_body js q z i) ends_none)) n = n r q h i
  ends_two_bodies us p (ends_more (ends_body ts r s h) (ends_more (ends_body js q z i) (ends_more a rest))) n = tt

  ends_last_body : (us : List Arg) (p : Run → Outcome) → EndsArgs most g us → ((r : Run) → EndsWell most g r → Ends most g (p r)) →
      Ends most g (last_body us p)
  ends_last_body us p ends_none n = tt
  ends_last_body us p (ends_more ends_other ends_none) n = tt
  ends_last_body us p (ends_more (ends_body ts r s h) ends_none) n = n r h
  ends_last_body us p (ends_more ends_other (ends_more b rest)) n = ends_last_body _ p (ends_more b rest) n
  ends_last_body us p (ends_more (ends_body ts r s h) (ends_more b rest)) n = ends_last_body _ p (ends_more b rest) n

  ends_outside : (c : Context) (o : Outcome) → Ends most g o → Ends most g (outside_views c o)
  ends_outside (main es) o n = n
  ends_outside view o n = tt
  ends_outside lambda o n = n

-- ---- instructions and nodes

-- tasks that are evaluated with less gas
abbrev EndsAgain : ℕ → ℕ → (Task → Run) → Type 0
EndsAgain most g p = (x : Task) (e : Surroundings) (d : ℕ) (A : List Kind) (V : List Val) (m : Tally) → m.gas < g →
    TaskSmall (most - m.gas) x → Begins most e V m →
    Ends most m.gas (p x e d A V m)

module _ (most : ℕ) (p : Task → Run) where
  again_less : (g h : ℕ) → h ≤ g → EndsAgain most g p → EndsAgain most h p
  again_less g h le n x e d A V m lt small b = n x e d A V m (under m.gas h g lt le) small b
    where
      under : (a b c : ℕ) → a < b → b ≤ c → a < c
      under a b c h g = omega (arith, h, g)

  -- further turns of a loop
  turns_again : (x : Task) (g : ℕ) → TaskSmall (most - g) x → ((n : ℕ) → most - g ≤ n → TaskSmall n x) → EndsAgain most g p →
      EndsBelow most g (p x)
  turns_again x g small grows n e d A V m lt b = n x e d A V m lt (grows (most - m.gas) (less_room most m.gas g (below m.gas g lt))) b
    where
      below : (a b : ℕ) → a < b → a ≤ b
      below a b h = omega (arith, h)

  run_act : (e : Surroundings) (d : ℕ) (A : List Kind) (V : List Val) (m : Tally) → Begins most e V m → EndsAgain most m.gas p →
      (form : Form) (name : Option Primitive)
      (annots : List (List ℕ)) (ts : Trees) (typing : Typer) (us : List Arg) → sizes ts ≤ most - m.gas → EndsArgs most m.gas us →
      Ends most m.gas (act p form name annots ts typing us e d A V m)
  run_act e d A V m g n f.straight name annots ts typing us s h =
      run_ruled most (λ x. p (node x)) e d (rule name annots ts A) (rule_named name annots ts A) A V m g (λ x. n (node x))
  run_act e d A V m g n f.transfer name annots ts typing us s h =
      ends_outside most m.gas e.context _ (run_ruled most (λ x. p (node x)) e d (rule name annots ts A)
      (rule_named name annots ts A) A V m g (λ x. n (node x)))
  run_act e d A V m g n f.push name annots ts typing us s h = run_push most e d ts (typing e.context A) A V m g s
  run_act e d A V m g n f.dip name annots ts typing us s h =
      ends_found most m.gas (dip_of ts) _ (λ i q. ends_last_body most m.gas us _ h (λ r u. run_dip most e d i A V m r g u))
  run_act e d A V m g n f.lambda name annots ts typing us s h = run_lambda most e d _ false ts (typing e.context A) A V m g s
  run_act e d A V m g n f.lambda_rec name annots ts typing us s h = run_lambda most e d _ true ts (typing e.context A) A V m g s
  run_act e d A V m g n f.exec name annots ts typing us s h = ends_no_body most m.gas us _ h (run_exec most e d A V m (λ x. p
      (node x)) g (λ x. n (node x)))
  run_act e d A V m g n f.apply name annots ts typing us s h = ends_no_body most m.gas us _ h (run_apply most e d A V m g)
  run_act e d A V m g n f.if_bool name annots ts typing us s h = ends_two_bodies most m.gas us _ h
      (λ r q u w. run_if most e d A V m r q g u w)
  run_act e d A V m g n f.if_none name annots ts typing us s h = ends_two_bodies most m.gas us _ h
      (λ r q u w. run_if_none most e d A V m r q g u w)
  run_act e d A V m g n f.if_left name annots ts typing us s h = ends_two_bodies most m.gas us _ h
      (λ r q u w. run_if_left most e d A V m r q g u w)
  run_act e d A V m g n f.if_cons name annots ts typing us s h = ends_two_bodies most m.gas us _ h
      (λ r q u w. run_if_cons most e d A V m r q g u w)
  run_act e d A V m g n f.loop name annots ts typing us s h =
      ends_one_body most m.gas us _ h (λ is r few u. run_loop most e d A V m (p (turns is)) g
      (turns_again (turns is) m.gas few (λ n le. rises (sizes is) (most - m.gas) n few le) n))
  run_act e d A V m g n f.loop_left name annots ts typing us s h =
      ends_one_body most m.gas us _ h (λ is r few u. run_loop_left most e d A V m (p (left_turns is)) g
      (turns_again (left_turns is) m.gas few (λ n le. rises (sizes is) (most - m.gas) n few le) n))
  run_act e d A V m g n f.iter name annots ts typing us s h = ends_one_body most m.gas us _ h (λ is r few u. run_iter most e d A V m r g u)
  run_act e d A V m g n f.map name annots ts typing us s h = ends_one_body most m.gas us _ h (λ is r few u. run_map most e d
      (result_kind is e.context) A V m r g u)
  run_act e d A V m g n f.failwith name annots ts typing us s h = ends_no_body most m.gas us _ h (run_fail most e d A V m g)
  run_act e d A V m g n f.never name annots ts typing us s h = tt
  run_act e d A V m g n f.self name annots ts typing us s h = run_self most e d annots ts (typing e.context A) A V m g
  run_act e d A V m g n f.create_contract name annots ts typing us s h = run_create most e d ts (typing e.context A) A V m g s

  fewer : (a n : ℕ) → a + 1 ≤ n → a ≤ n
  fewer a n h = omega (arith, h)

  first_few : (a b n : ℕ) → a + b ≤ n → a ≤ n
  first_few a b n h = omega (arith, h)

  rest_few : (a b n : ℕ) → a + b ≤ n → b ≤ n
  rest_few a b n h = omega (arith, h)

  abbrev TreesRun : Trees → Type 0
  TreesRun ts = (e : Surroundings) (d : ℕ) (A : List Kind) (V : List Val) (m : Tally) → Begins most e V m → EndsAgain most m.gas p →
      sizes ts ≤ most - m.gas →
      Ends most m.gas (trees_run p ts e d A V m)

  block_ends : (ts : Trees) (g : ℕ) → TreesRun ts → EndsAgain most g p → sizes ts ≤ most - g → EndsWell most g (block (trees_run p ts))
  block_ends ts g h n s e d A V m le b =
      ends_block most g (trees_run p ts)
      (λ e d A V m le b. h e d A V m b (again_less g m.gas le n) (rises (sizes ts) (most - g) (most - m.gas) s
      (less_room most m.gas g le))) e d A V m le b

  mutual
    run_tree : (x : Tree) (e : Surroundings) (d : ℕ) (A : List Kind) (V : List Val) (m : Tally) → Begins most e V m →
        EndsAgain most m.gas p → size x ≤ most - m.gas →
        Ends most m.gas (tree_run p x e d A V m)
    run_tree (int z) e d A V m g n s = tt
    run_tree (str z) e d A V m g n s = tt
    run_tree (bytes z) e d A V m g n s = tt
    run_tree (prim name annots ts) e d A V m g n s =
        run_act e d A V m g n (form_of (primitive_of_name name)) (primitive_of_name name) annots ts (tree_type (prim name annots ts))
        (args_run p ts) (fewer (sizes ts) (most - m.gas) s)
        (run_args ts m.gas n (fewer (sizes ts) (most - m.gas) s))
    run_tree (seq ts) e d A V m g n s = block_ends ts m.gas (λ e d A V m b n s. run_trees ts e d A V m b n s) n (fewer (sizes ts)
        (most - m.gas) s) e d A V m (same_gas m.gas) g

    run_trees : (ts : Trees) (e : Surroundings) (d : ℕ) (A : List Kind) (V : List Val) (m : Tally) → Begins most e V m →
        EndsAgain most m.gas p → sizes ts ≤ most - m.gas →
        Ends most m.gas (trees_run p ts e d A V m)
    run_trees none e d A V m g n s = (same_gas m.gas, g.values, g.issued)
    run_trees (more t ts) e d A V m g n s =
        ends_after most m.gas (tree_run p t e d A V m) (trees_run p ts e d) (run_tree t e d A V m g n (first_few (size t) (sizes ts)
        (most - m.gas) s))
        (λ B W i le w u. run_trees ts e d B W i (begins_again most e V m g W i le w u) (again_less m.gas i.gas le n)
        (rises (sizes ts) (most - m.gas) (most - i.gas) (rest_few (size t) (sizes ts) (most - m.gas) s) (less_room most i.gas m.gas le)))

    run_args : (ts : Trees) (g : ℕ) → EndsAgain most g p → sizes ts ≤ most - g → EndsArgs most g (args_run p ts)
    run_args none g n s = ends_none
    run_args (more t ts) g n s = ends_more (run_arg t g n (first_few (size t) (sizes ts) (most - g) s)) (run_args ts g n (rest_few
        (size t) (sizes ts) (most - g) s))

    run_arg : (x : Tree) (g : ℕ) → EndsAgain most g p → size x ≤ most - g → EndsArg most g (arg_run p x)
    run_arg (int z) g n s = ends_other
    run_arg (str z) g n s = ends_other
    run_arg (bytes z) g n s = ends_other
    run_arg (prim name annots ts) g n s = ends_other
    run_arg (seq ts) g n s = ends_body ts _ (fewer (sizes ts) (most - g) s) (block_ends ts g
        (λ e d A V m b n s. run_trees ts e d A V m b n s) n (fewer (sizes ts) (most - g) s))

  run_task : (x : Task) (e : Surroundings) (d : ℕ) (A : List Kind) (V : List Val) (m : Tally) → Begins most e V m →
      EndsAgain most m.gas p → TaskSmall (most - m.gas) x →
      Ends most m.gas (task_run p x e d A V m)
  run_task (node t) e d A V m g n s = run_tree t e d A V m g n s
  run_task (turns ts) e d A V m g n s =
      run_turns most e d A V m (p (turns ts)) _ g (turns_again (turns ts) m.gas s (λ n le. rises (sizes ts) (most - m.gas) n s le) n)
      (block_ends ts m.gas (run_trees ts) n s)
  run_task (left_turns ts) e d A V m g n s =
      run_left_turns most e d A V m (p (left_turns ts)) _ g (turns_again (left_turns ts) m.gas s (λ n le. rises (sizes ts)
      (most - m.gas) n s le) n) (block_ends ts m.gas (run_trees ts) n s)

-- ---- levels

run_level : (most n : ℕ) (x : Task) (e : Surroundings) (d : ℕ) (A : List Kind) (V : List Val) (m : Tally) → Begins most e V m →
    TaskSmall (most - m.gas) x →
    Ends most m.gas (level n x e d A V m)
run_level most zero x e d A V m g s = tt
run_level most (suc n) x e d A V m g s = run_task most (level n) x e d A V m g
    (λ y e d A V i less small b. run_level most n y e d A V i b small) s

pub runs_are_counted : RunsAreCounted
runs_are_counted most t e d A V m b s = run_level most (suc m.gas) (node t) e d A V m b s
