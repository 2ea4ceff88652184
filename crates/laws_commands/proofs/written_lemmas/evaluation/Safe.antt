-- Typed code is never stuck, at each level of its evaluation.
use Rattle.std.proofs.Common.{ℕ, zero, suc, ◌+◌, ◌<◌, ◌^◌, List, [], ◌∷◌, Option, refl, subst, arith}
use Rattle.std.specs.Prelude.{nat_le, length}
use Rattle.std.proofs.lemmas.Int.{ints}
use Rattle.rules_text.specs.nodes.Tree.{Tree, int, str, bytes, prim, seq, Trees, none, more, size, sizes}
use Rattle.rules_text.specs.nodes.Primitives.{primitive_of_name}
use Rattle.rules_text.specs.declared.nodes.Primitive.{Primitive}
use Rattle.rules_data.specs.types.Kind.{Kind}
use Rattle.rules_data.specs.types.Kind as k
use Rattle.rules_code.specs.instructions.Context.{Context}
use Rattle.rules_code.specs.instructions.Context as place
use Rattle.rules_code.specs.instructions.Arguments.{Found, found, fault}
use Rattle.rules_code.specs.instructions.Control.{dip_of}
use Rattle.rules_code.specs.instructions.Forms.{Form, form_of}
use Rattle.rules_code.specs.instructions.Forms as f
use Rattle.rules_data.specs.values.Val.{Val}
use Rattle.rules_code.specs.typing.Typing.{Typing, goes, Typer, shift}
use Rattle.rules_code.specs.typing.Typing as typing
use Rattle.rules_code.specs.typing.Stacks as asked
use Rattle.rules_code.specs.typing.Acts.{Meanings, act_type, of_rule, dip_type}
use Rattle.rules_code.specs.typing.Acts as acts
use Rattle.rules_code.specs.typing.Nodes.{tree_type, trees_type, bodies, body}
use Rattle.rules_code.specs.evaluation.Surroundings.{Surroundings}
use Rattle.rules_code.specs.evaluation.Operations.{Tally}
use Rattle.rules_code.specs.evaluation.Outcome.{Outcome, stuck, Run}
use Rattle.rules_code.specs.evaluation.Branches.{dip_run}
use Rattle.rules_code.specs.evaluation.Given.{on_found}
use Rattle.rules_code.specs.evaluation.Evaluation.{Task, node, turns, left_turns, Arg, last_body, outside_views, act, tree_run, trees_run, args_run, arg_run, task_run, level}
use Rattle.laws_code.specs.evaluation.Laws.{IsGood}
use Rattle.laws_code.specs.stacks.Sound.{seen, Sound, KeepsFrom, SafeRun}
use Rattle.laws_code.proofs.stacks.ForCallers.{keeps_failed, sound_after, after_still, keeps_shift, keeps_in_block}
use Rattle.laws_code.proofs.control.ForCallers.{PartsAreSafe, act_typer}
use Rattle.laws_code.proofs.control.Branches.{safe_block, safe_if, safe_if_none, safe_if_left, safe_if_cons, safe_dip, safe_turns, safe_left_turns, safe_loop, safe_loop_left}
use Rattle.laws_code.proofs.control.Items.{safe_iter}
use Rattle.laws_code.proofs.control.Mapped.{safe_map}
use Rattle.laws_code.proofs.control.Calls.{safe_exec, safe_fail, safe_never}
use Rattle.laws_code.proofs.typed.ForCallers.{Types}
use Rattle.laws_code.proofs.control.Typed.{tree_types}
use Rattle.laws_code.proofs.control.Promises.{task_type, IsSmall, SafeAgain, SafeArg, safe_body, safe_other, SafeArgs, safe_none, safe_more, safe_no_body, safe_one_body, safe_two_bodies, safe_last_body, bad_if, bad_bool, bad_option, bad_or, bad_list, bad_parts, bad_mapped, bad_second}

-- ---- instructions and nodes

safe_outside : (e : Surroundings) (m : Tally) (V : List Val) (c : Context) (t : Typing) (o : Outcome) →
    KeepsFrom (seen e) m.issued m.changes V t o →
    KeepsFrom (seen e) m.issued m.changes V (acts.outside_views c t) (outside_views c o)
safe_outside e m V (place.main es) t o h = h
safe_outside e m V place.view t o h = tt
safe_outside e m V place.lambda t o h = h

module _ (open_parts : PartsAreSafe) (p : Task → Run) (again : SafeAgain p) where
  dips : (x : Found ℕ) (bs : List Typer) (us : List Arg) → SafeArgs bs us →
      (e : Surroundings) (d : ℕ) (A : List Kind) (V : List Val) (m : Tally) → IsGood e → Sound (seen e) m.issued m.changes A V →
      KeepsFrom (seen e) m.issued m.changes V (typing.on_found x (λ n. acts.last_body bs (λ b. dip_type n b e.context A)))
      (on_found x (λ n. last_body us (λ r. dip_run n r e d A V m)))
  dips (found n) bs us args e d A V m g so =
      safe_last_body e m V bs us (λ b. dip_type n b e.context A) (λ r. dip_run n r e d A V m) args
      (λ at. bad_if (nat_le n (length A)) _ tt) (λ b r s. safe_dip b r s e d g n A V m so)
  dips (fault l) bs us args e d A V m g so = tt

  safe_act : (form : Form) (name : Option Primitive) (annots : List (List ℕ)) (ts : Trees) → sizes ts < 2 ^ 32 →
      SafeArgs (bodies ts 1) (args_run p ts) →
      SafeRun (act_typer form name annots ts) (λ e d A V m. act p form name annots ts (act_typer form name annots ts) (args_run p ts) e d A
      V m)
  safe_act f.straight name annots ts small args e d A V m g so = open_parts.rows (λ t. p (node t))
      (λ t s. again (node t) s) name annots ts e d A V m g so
  safe_act f.transfer name annots ts small args e d A V m g so = safe_outside e m V e.context _ _
      (open_parts.rows (λ t. p (node t)) (λ t s. again (node t) s) name annots ts e d A V m g so)
  safe_act f.push name annots ts small args e d A V m g so = open_parts.pushes name annots ts small e d A V m g so
  safe_act f.dip name annots ts small args e d A V m g so = dips (dip_of ts) (bodies ts 1) (args_run p ts) args e d A V m g so
  safe_act f.lambda name annots ts small args e d A V m g so = open_parts.lambdas name annots ts small e d A V m g so
  safe_act f.lambda_rec name annots ts small args e d A V m g so = open_parts.lambda_recs name annots ts small e d A V m g so
  safe_act f.exec name annots ts small args e d A V m g so = safe_no_body e m V (bodies ts 1) (args_run p ts) _ _ args
      (safe_exec (λ t. p (node t)) (λ t s. again (node t) s) e d g A V m so)
  safe_act f.apply name annots ts small args e d A V m g so = safe_no_body e m V (bodies ts 1) (args_run p ts) _ _ args
      (open_parts.applies e d A V m g so)
  safe_act f.if_bool name annots ts small args e d A V m g so =
      safe_two_bodies e m V (bodies ts 1) (args_run p ts) _ _ args (λ at b. bad_bool A _ (λ A. tt))
      (λ at b. bad_bool A _ (λ A. bad_second (b e.context A) at)) (λ b c r s sr ss. safe_if b c r s sr ss e d A V m g so)
  safe_act f.if_none name annots ts small args e d A V m g so =
      safe_two_bodies e m V (bodies ts 1) (args_run p ts) _ _ args (λ at b. bad_option A _ (λ a A. tt))
      (λ at b. bad_option A _ (λ a A. bad_second (b e.context A) at))
      (λ b c r s sr ss. safe_if_none b c r s sr ss e d A V m g so)
  safe_act f.if_left name annots ts small args e d A V m g so =
      safe_two_bodies e m V (bodies ts 1) (args_run p ts) _ _ args (λ at b. bad_or A _ (λ x y A. tt))
      (λ at b. bad_or A _ (λ x y A. bad_second (b e.context (x ∷ A)) at))
      (λ b c r s sr ss. safe_if_left b c r s sr ss e d A V m g so)
  safe_act f.if_cons name annots ts small args e d A V m g so =
      safe_two_bodies e m V (bodies ts 1) (args_run p ts) _ _ args (λ at b. bad_list A _ (λ a A. tt))
      (λ at b. bad_list A _ (λ a A. bad_second (b e.context (a ∷ k.list a ∷ A)) at))
      (λ b c r s sr ss. safe_if_cons b c r s sr ss e d A V m g so)
  safe_act f.loop name annots ts small args e d A V m g so =
      safe_one_body e m V (bodies ts 1) (args_run p ts) _ _ args (λ at. bad_bool A _ (λ A. tt))
      (λ at us r le s. safe_loop at (trees_type us) (p (turns us)) (again (turns us) le) e d A V m g so)
  safe_act f.loop_left name annots ts small args e d A V m g so =
      safe_one_body e m V (bodies ts 1) (args_run p ts) _ _ args (λ at. bad_or A _ (λ x y A. tt))
      (λ at us r le s. safe_loop_left at (trees_type us) (p (left_turns us)) (again (left_turns us) le) e d A V m g so)
  safe_act f.iter name annots ts small args e d A V m g so =
      safe_one_body e m V (bodies ts 1) (args_run p ts) _ _ args (λ at. bad_parts A _ (λ a A. tt))
      (λ at us r le s. safe_iter (λ c A. shift at (trees_type us c A)) r s e d g A V m so)
  safe_act f.map name annots ts small args e d A V m g so =
      safe_one_body e m V (bodies ts 1) (args_run p ts) _ _ args (λ at. bad_mapped A _ (λ a new A. tt))
      (λ at us r le s. safe_map at (trees_type us) r s e d g A V m so)
  safe_act f.failwith name annots ts small args e d A V m g so = safe_no_body e m V (bodies ts 1) (args_run p ts) _ _ args
      (safe_fail e d A V m so)
  safe_act f.never name annots ts small args e d A V m g so = never_stuck (bodies ts 1)
    where
      never_stuck : (bs : List Typer) → KeepsFrom (seen e) m.issued m.changes V (acts.no_body bs (asked.on_never A)) stuck
      never_stuck [] = safe_never e d A V m so
      never_stuck (b ∷ bs) = tt
  safe_act f.self name annots ts small args e d A V m g so = open_parts.selves name annots ts e d A V m g so
  safe_act f.create_contract name annots ts small args e d A V m g so = open_parts.creates name annots ts small e d A V m g so

  mutual
    pub safe_tree : (t : Tree) → size t < 2 ^ 32 → SafeRun (tree_type t) (tree_run p t)
    safe_tree (int n) small e d A V m g so = tt
    safe_tree (str s) small e d A V m g so = tt
    safe_tree (bytes b) small e d A V m g so = tt
    safe_tree (prim name annots ts) small e d A V m g so =
        let less : sizes ts < 2 ^ 32 = omega arith in
        safe_act (form_of (primitive_of_name name)) (primitive_of_name name) annots ts less (safe_args ts 1 less) e d A V m g so
    safe_tree (seq ts) small e d A V m g so =
        let less : sizes ts < 2 ^ 32 = omega arith in
        keeps_shift (seen e) m.issued m.changes 1 V (trees_type ts e.context A) _
        (safe_block (trees_type ts) (trees_run p ts) (safe_trees ts less) e d A V m g so)

    pub safe_trees : (ts : Trees) → sizes ts < 2 ^ 32 → SafeRun (trees_type ts) (trees_run p ts)
    safe_trees none small e d A V m g so = (refl, after_still A A V m so so.fit (λ id. omega (arith, ints)))
    safe_trees (more t ts) small e d A V m g so =
        let first : size t < 2 ^ 32 = omega arith in
        let rest : sizes ts < 2 ^ 32 = omega arith in
        keeps_in_block (seen e) m.issued m.changes V (tree_type t e.context A) ts _ (tree_run p t e d A V m)
        (trees_run p ts e d) (safe_tree t first e d A V m g so)
        (λ B W n same a. keeps_shift (seen e) n.issued n.changes (size t) W (trees_type ts e.context B) _
        (safe_trees ts rest e d B W n g (sound_after A B W n so
        (subst Types same (tree_types t e.context (open_parts.contexts e g) A so.types)) a)))

    safe_args : (ts : Trees) (at : ℕ) → sizes ts < 2 ^ 32 → SafeArgs (bodies ts at) (args_run p ts)
    safe_args none at small = safe_none
    safe_args (more t ts) at small =
        let first : size t < 2 ^ 32 = omega arith in
        let rest : sizes ts < 2 ^ 32 = omega arith in
        safe_more (safe_arg t at first) (safe_args ts (at + size t) rest)

    safe_arg : (t : Tree) (at : ℕ) → size t < 2 ^ 32 → SafeArg (body t at) (arg_run p t)
    safe_arg (int n) at small = safe_other at
    safe_arg (str s) at small = safe_other at
    safe_arg (bytes b) at small = safe_other at
    safe_arg (prim name annots ts) at small = safe_other at
    safe_arg (seq ts) at small =
        let less : sizes ts < 2 ^ 32 = omega arith in
        safe_body (at + 1) ts _ less (λ e d A V m g so. keeps_shift (seen e) m.issued m.changes (at + 1) V
        (trees_type ts e.context A) _ (safe_block (trees_type ts) (trees_run p ts) (safe_trees ts less) e d A V m g so))

  safe_task : (x : Task) → IsSmall x → SafeRun (task_type x) (task_run p x)
  safe_task (node t) small e d A V m g so = safe_tree t small e d A V m g so
  safe_task (turns ts) small e d A V m g so =
      safe_turns (trees_type ts) (p (turns ts)) _ (safe_block (trees_type ts) (trees_run p ts) (safe_trees ts small))
      (again (turns ts) small) e d A V m g so
  safe_task (left_turns ts) small e d A V m g so =
      safe_left_turns (trees_type ts) (p (left_turns ts)) _ (safe_block (trees_type ts) (trees_run p ts) (safe_trees ts small))
      (again (left_turns ts) small) e d A V m g so

module _ (open_parts : PartsAreSafe) where
  pub safe_level : (n : ℕ) → SafeAgain (level n)
  safe_level zero x small e d A V m g so = keeps_failed (seen e) m.issued m.changes V (task_type x e.context A) _
  safe_level (suc n) x small e d A V m g so = safe_task open_parts (level n) (safe_level n) x small e d A V m g so
