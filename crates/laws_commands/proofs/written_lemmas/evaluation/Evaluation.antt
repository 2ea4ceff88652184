-- Nodes of all forms, and the whole evaluation.
use Rattle.std.proofs.Common.{◌≡◌, ◌<◌, ◌^◌, ℕ, zero, suc, ◌+◌, true, false, List, [], ◌∷◌, Option, subst, arith}
use Rattle.rules_text.specs.nodes.Tree.{Tree, int, str, bytes, prim, seq, Trees, none, more, size, sizes}
use Rattle.rules_text.specs.nodes.Primitives.{primitive_of_name}
use Rattle.rules_text.specs.declared.nodes.Primitive.{Primitive}
use Rattle.rules_data.specs.declared.gas.Kind.TheVariants as price
use Rattle.rules_data.specs.types.Kind.{Kind}
use Rattle.rules_code.specs.instructions.Context.{Context}
use Rattle.rules_code.specs.instructions.Context as place
use Rattle.rules_code.specs.instructions.Arguments.{Found, found, fault}
use Rattle.rules_code.specs.instructions.Control.{dip_of}
use Rattle.rules_code.specs.instructions.Forms.{Form, form_of}
use Rattle.rules_code.specs.instructions.Forms as f
use Rattle.rules_data.specs.values.Val.{Val}
use Rattle.rules_code.specs.typing.Typing.{Typing, goes, fails, bad, Typer, shift, in_block}
use Rattle.rules_code.specs.typing.Typing as typing
use Rattle.rules_code.specs.typing.Acts.{dip_type}
use Rattle.rules_code.specs.typing.Acts as acts
use Rattle.rules_code.specs.typing.Nodes.{tree_type, trees_type, bodies, body}
use Rattle.rules_code.specs.evaluation.Surroundings.{Surroundings}
use Rattle.rules_code.specs.evaluation.Operations.{Tally}
use Rattle.rules_code.specs.evaluation.Outcome.{Outcome, Run}
use Rattle.rules_code.specs.evaluation.Branches.{dip_run}
use Rattle.rules_code.specs.evaluation.Given.{on_found}
use Rattle.rules_code.specs.evaluation.Evaluation.{Task, node, turns, left_turns, Arg, other, no_body, one_body, two_bodies, last_body, outside_views, act, tree_run, trees_run, args_run, arg_run, task_run, level, eval}
use Rattle.rules_code.specs.evaluation.Evaluation as run
use Rattle.laws_typing.specs.packing.Laws.{IsTyped}
use Rattle.laws_typing.proofs.packing_lemmas.Parts.{unshifted}
use Rattle.laws_code.specs.stacks.Sound.{seen, SafeRun}
use Rattle.laws_code.proofs.stacks.ForCallers.{sound_after, keeps_shift}
use Rattle.laws_code.proofs.control.ForCallers.{act_typer, tree_types}
use Rattle.laws_code.proofs.control.Branches.{safe_block}
use Rattle.laws_code.proofs.control.Promises.{task_type, IsSmall, SafeAgain}
use Rattle.laws_code.proofs.typed.ForCallers.{Types}
use Rattle.laws_code.proofs.safety_lemmas.ForCallers.{parts_are_safe}
use Rattle.laws_commands.specs.written.Written.{HasForm, HaveForms}
use Rattle.laws_commands.proofs.written_lemmas.evaluation.Safe.{safe_tree, safe_trees, safe_level}
use Rattle.laws_commands.proofs.written_lemmas.evaluation.Stands.{Keeps, Begins, KeepsRun, keeps_next, keeps_block}
use Rattle.laws_commands.proofs.written_lemmas.evaluation.Branches.{keeps_if, keeps_if_none, keeps_if_left, keeps_if_cons, keeps_dip, keeps_turns, keeps_left_turns, keeps_loop, keeps_loop_left}
use Rattle.laws_commands.proofs.written_lemmas.evaluation.Items.{keeps_iter, keeps_map}
use Rattle.laws_commands.proofs.written_lemmas.evaluation.Calls.{keeps_exec, keeps_apply, keeps_fail}
use Rattle.laws_commands.proofs.written_lemmas.evaluation.Given.{keeps_push, keeps_function, keeps_self, keeps_create}
use Rattle.laws_commands.proofs.written_lemmas.evaluation.Operating.{keeps_ruled}

abbrev TaskWritten : Task → Type 0
TaskWritten (node t) = HasForm t
TaskWritten (turns ts) = HaveForms ts
TaskWritten (left_turns ts) = HaveForms ts

data WrittenArg (There : List ℕ → Type 0) : Typer → Arg → Type 0 where
  written_body : (at : ℕ) (ts : Trees) (r : Run) → sizes ts < 2 ^ 32 → HaveForms ts → SafeRun (λ c A. shift at (trees_type ts c A)) r →
      KeepsRun There (λ c A. shift at (trees_type ts c A)) r → WrittenArg There (λ c A. shift at (trees_type ts c A)) (run.body ts r)
  written_other : (at : ℕ) → WrittenArg There (λ c A. bad at) other

data WrittenArgs (There : List ℕ → Type 0) : List Typer → List Arg → Type 0 where
  written_none : WrittenArgs There [] []
  written_more : {b : Typer} {a : Arg} {bs : List Typer} {us : List Arg} → WrittenArg There b a → WrittenArgs There bs us →
      WrittenArgs There (b ∷ bs) (a ∷ us)

first_typed : (T : Typing) (ts : Trees) (next : List Kind → Typing) → IsTyped (in_block T ts next) → IsTyped T
first_typed (goes B) ts next h = tt
first_typed fails none next h = tt
first_typed fails (more t ts) next h = tt
first_typed (bad l) ts next h = h

next_typed : (T : Typing) (ts : Trees) (next : List Kind → Typing) (B : List Kind) → T ≡ goes B → IsTyped (in_block T ts next) →
    IsTyped (next B)
next_typed T ts next B e h = subst (λ T. IsTyped (in_block T ts next)) e h

module _ (There : List ℕ → Type 0) where
  abbrev KeepsAgain : (Task → Run) → Type 0
  KeepsAgain p = (x : Task) → IsSmall x → TaskWritten x → KeepsRun There (task_type x) (p x)

  keeps_no_body : (us : List Arg) (o : Outcome) → Keeps There o → Keeps There (no_body us o)
  keeps_no_body [] o h = h
  keeps_no_body (u ∷ us) o h = tt

  keeps_one_body : (bs : List Typer) (us : List Arg) (next : Typer → Typing) (l : Trees → Run → Outcome) → WrittenArgs There bs us →
      IsTyped (acts.one_body bs next) →
      ((at : ℕ) (ts : Trees) (r : Run) → sizes ts < 2 ^ 32 → HaveForms ts → SafeRun (λ c A. shift at (trees_type ts c A)) r →
      KeepsRun There (λ c A. shift at (trees_type ts c A)) r → IsTyped (next (λ c A. shift at (trees_type ts c A))) → Keeps There (l ts r)) →
      Keeps There (one_body us l)
  keeps_one_body bs us next l written_none h go = tt
  keeps_one_body bs us next l (written_more (written_other at) written_none) h go = tt
  keeps_one_body bs us next l (written_more (written_other at) (written_more b rest)) h go = tt
  keeps_one_body bs us next l (written_more (written_body at ts r small f s t) written_none) h go = go at ts r small f s t h
  keeps_one_body bs us next l (written_more (written_body at ts r small f s t) (written_more b rest)) h go = tt

  keeps_two_bodies : (bs : List Typer) (us : List Arg) (next : Typer → Typer → Typing) (l : Run → Run → Outcome) → WrittenArgs There bs us →
      IsTyped (acts.two_bodies bs next) → ((b c : Typer) (r s : Run) → KeepsRun There b r → KeepsRun There c s → IsTyped (next b c) → Keeps There (l r s)) →
      Keeps There (two_bodies us l)
  keeps_two_bodies bs us next l written_none h go = tt
  keeps_two_bodies bs us next l (written_more (written_other at) rest) h go = tt
  keeps_two_bodies bs us next l (written_more (written_body at ts r small f s t) written_none) h go = tt
  keeps_two_bodies bs us next l (written_more (written_body at ts r small f s t) (written_more (written_other at') rest)) h go = tt
  keeps_two_bodies bs us next l (written_more (written_body at ts r small f s t)
      (written_more (written_body at' ts' r' small' f' s' t') written_none)) h go =
      go _ _ r r' t t' h
  keeps_two_bodies bs us next l (written_more (written_body at ts r small f s t)
      (written_more (written_body at' ts' r' small' f' s' t') (written_more c rest))) h go = tt

  keeps_last_body : (bs : List Typer) (us : List Arg) (next : Typer → Typing) (l : Run → Outcome) → WrittenArgs There bs us →
      IsTyped (acts.last_body bs next) →
      ((b : Typer) (r : Run) → SafeRun b r → KeepsRun There b r → IsTyped (next b) → Keeps There (l r)) → Keeps There (last_body us l)
  keeps_last_body bs us next l written_none h go = tt
  keeps_last_body bs us next l (written_more (written_other at) written_none) h go = tt
  keeps_last_body bs us next l (written_more (written_body at ts r small f s t) written_none) h go = go _ r s t h
  keeps_last_body bs us next l (written_more (written_other at) (written_more b rest)) h go = keeps_last_body _ _ next l (written_more b rest)
      h go
  keeps_last_body bs us next l (written_more (written_body at ts r small f s t) (written_more b rest)) h go = keeps_last_body _ _ next l
      (written_more b rest) h go

  keeps_outside : (c : Context) (o : Outcome) → Keeps There o → Keeps There (outside_views c o)
  keeps_outside (place.main es) o h = h
  keeps_outside place.view o h = tt
  keeps_outside place.lambda o h = h

  module _ (p : Task → Run) (safe : SafeAgain p) (again : KeepsAgain p) where
    dips : (x : Found ℕ) (bs : List Typer) (us : List Arg) → WrittenArgs There bs us → (e : Surroundings) (d : ℕ) (A : List Kind) (V : List Val)
        (m : Tally) →
        Begins There e A V m → IsTyped (typing.on_found x (λ n. acts.last_body bs (λ b. dip_type n b e.context A))) →
        Keeps There (on_found x (λ n. last_body us (λ r. dip_run n r e d A V m)))
    dips (found n) bs us args e d A V m g h =
        keeps_last_body bs us (λ b. dip_type n b e.context A) (λ r. dip_run n r e d A V m) args h
        (λ b r s t i. keeps_dip There b r s t n e d A V m g i)
    dips (fault l) bs us args e d A V m g h = tt

    keeps_act : (form : Form) (name : Option Primitive) (annots : List (List ℕ)) (ts : Trees) → sizes ts < 2 ^ 32 → HaveForms ts →
        WrittenArgs There (bodies ts 1) (args_run p ts) →
        KeepsRun There (act_typer form name annots ts) (λ e d A V m. act p form name annots ts (act_typer form name annots ts) (args_run p ts) e d A
        V m)
    keeps_act f.straight name annots ts small w args e d A V m g h =
        keeps_ruled There (λ t. p (node t)) (λ t s. safe (node t) s) (λ t s i. again (node t) s i) name annots ts e d A V m g
    keeps_act f.transfer name annots ts small w args e d A V m g h =
        keeps_outside e.context _ (keeps_ruled There (λ t. p (node t)) (λ t s. safe (node t) s) (λ t s i. again (node t) s i) name annots ts e d A V
        m g)
    keeps_act f.push name annots ts small w args e d A V m g h = keeps_push There ts w _ e d A V m g
    keeps_act f.dip name annots ts small w args e d A V m g h = dips (dip_of ts) (bodies ts 1) (args_run p ts) args e d A V m g h
    keeps_act f.lambda name annots ts small w args e d A V m g h = keeps_function There price.Lambda false ts w _ e d A V m g
    keeps_act f.lambda_rec name annots ts small w args e d A V m g h = keeps_function There price.LambdaRec true ts w _ e d A V m g
    keeps_act f.exec name annots ts small w args e d A V m g h =
        keeps_no_body (args_run p ts) _ (keeps_exec There (λ t. p (node t)) (λ t s. safe (node t) s) (λ t s i. again (node t) s i) e d A V m g)
    keeps_act f.apply name annots ts small w args e d A V m g h = keeps_no_body (args_run p ts) _ (keeps_apply There e d A V m g)
    keeps_act f.if_bool name annots ts small w args e d A V m g h =
        keeps_two_bodies (bodies ts 1) (args_run p ts) _ _ args h (λ b c r s t u i. keeps_if There b c r s t u e d A V m g i)
    keeps_act f.if_none name annots ts small w args e d A V m g h =
        keeps_two_bodies (bodies ts 1) (args_run p ts) _ _ args h (λ b c r s t u i. keeps_if_none There b c r s t u e d A V m g i)
    keeps_act f.if_left name annots ts small w args e d A V m g h =
        keeps_two_bodies (bodies ts 1) (args_run p ts) _ _ args h (λ b c r s t u i. keeps_if_left There b c r s t u e d A V m g i)
    keeps_act f.if_cons name annots ts small w args e d A V m g h =
        keeps_two_bodies (bodies ts 1) (args_run p ts) _ _ args h (λ b c r s t u i. keeps_if_cons There b c r s t u e d A V m g i)
    keeps_act f.loop name annots ts small w args e d A V m g h =
        keeps_one_body (bodies ts 1) (args_run p ts) _ _ args h
        (λ at us r le i s t j. keeps_loop There at (trees_type us) (p (turns us)) (again (turns us) le i) e d A V m g j)
    keeps_act f.loop_left name annots ts small w args e d A V m g h =
        keeps_one_body (bodies ts 1) (args_run p ts) _ _ args h
        (λ at us r le i s t j. keeps_loop_left There at (trees_type us) (p (left_turns us)) (again (left_turns us) le i) e d A V m g j)
    keeps_act f.iter name annots ts small w args e d A V m g h =
        keeps_one_body (bodies ts 1) (args_run p ts) _ _ args h
        (λ at us r le i s t j. keeps_iter There (λ c A. shift at (trees_type us c A)) r s t e d A V m g j)
    keeps_act f.map name annots ts small w args e d A V m g h =
        keeps_one_body (bodies ts 1) (args_run p ts) _ _ args h
        (λ at us r le i s t j. keeps_map There at (trees_type us) r s t e d A V m g j)
    keeps_act f.failwith name annots ts small w args e d A V m g h = keeps_no_body (args_run p ts) _ (keeps_fail There e d A V m g)
    keeps_act f.never name annots ts small w args e d A V m g h = tt
    keeps_act f.self name annots ts small w args e d A V m g h = keeps_self There annots ts _ e d A V m g
    keeps_act f.create_contract name annots ts small w args e d A V m g h = keeps_create There ts w _ e d A V m g

    mutual
      keeps_tree : (t : Tree) → size t < 2 ^ 32 → HasForm t → KeepsRun There (tree_type t) (tree_run p t)
      keeps_tree (int n) small w e d A V m g h = tt
      keeps_tree (str s) small w e d A V m g h = tt
      keeps_tree (bytes b) small w e d A V m g h = tt
      keeps_tree (prim name annots ts) small w e d A V m g h =
          let less : sizes ts < 2 ^ 32 = omega arith in
          keeps_act (form_of (primitive_of_name name)) (primitive_of_name name) annots ts less w.2 (keeps_args ts 1 less w.2) e d A V m g h
      keeps_tree (seq ts) small w e d A V m g h =
          let less : sizes ts < 2 ^ 32 = omega arith in
          keeps_block There (trees_type ts) (trees_run p ts) (keeps_trees ts less w.0) e d A V m g (unshifted 1 (trees_type ts e.context A) h)

      keeps_trees : (ts : Trees) → sizes ts < 2 ^ 32 → HaveForms ts → KeepsRun There (trees_type ts) (trees_run p ts)
      keeps_trees none small w e d A V m g h = (g.values, g.tally)
      keeps_trees (more t ts) small w e d A V m g h =
          let first : size t < 2 ^ 32 = omega arith in
          let rest : sizes ts < 2 ^ 32 = omega arith in
          let typed : IsTyped (tree_type t e.context A) = first_typed (tree_type t e.context A) ts
          (λ B. shift (size t) (trees_type ts e.context B)) h in
          keeps_next There e m V (tree_type t e.context A) (tree_run p t e d A V m) (trees_run p ts e d)
          (safe_tree parts_are_safe p safe t first e d A V m g.good g.sound) (keeps_tree t first w.0 e d A V m g typed) typed
          (λ B W n same a v u. keeps_trees ts rest w.1 e d B W n
          (record {
            good = g.good;
            sees = g.sees;
            own = g.own;
            around = g.around;
            sound = sound_after A B W n g.sound (subst Types same (tree_types t e.context (parts_are_safe.contexts e g.good) A g.sound.types))
                a;
            values = v;
            tally = u;
          })
          (unshifted (size t) (trees_type ts e.context B) (next_typed (tree_type t e.context A) ts
          (λ B. shift (size t) (trees_type ts e.context B)) B same h)))

      keeps_args : (ts : Trees) (at : ℕ) → sizes ts < 2 ^ 32 → HaveForms ts → WrittenArgs There (bodies ts at) (args_run p ts)
      keeps_args none at small w = written_none
      keeps_args (more t ts) at small w =
          let first : size t < 2 ^ 32 = omega arith in
          let rest : sizes ts < 2 ^ 32 = omega arith in
          written_more (keeps_arg t at first w.0) (keeps_args ts (at + size t) rest w.1)

      keeps_arg : (t : Tree) (at : ℕ) → size t < 2 ^ 32 → HasForm t → WrittenArg There (body t at) (arg_run p t)
      keeps_arg (int n) at small w = written_other at
      keeps_arg (str s) at small w = written_other at
      keeps_arg (bytes b) at small w = written_other at
      keeps_arg (prim name annots ts) at small w = written_other at
      keeps_arg (seq ts) at small w =
          let less : sizes ts < 2 ^ 32 = omega arith in
          written_body (at + 1) ts _ less w.0
          (λ e d A V m g so. keeps_shift (seen e) m.issued m.changes (at + 1) V
          (trees_type ts e.context A) _ (safe_block (trees_type ts) (trees_run p ts) (safe_trees parts_are_safe p safe ts less) e d A V m g
          so))
          (λ e d A V m g h. keeps_block There (trees_type ts) (trees_run p ts) (keeps_trees ts less w.0) e d A V m g
          (unshifted (at + 1) (trees_type ts e.context A) h))

    keeps_task : (x : Task) → IsSmall x → TaskWritten x → KeepsRun There (task_type x) (task_run p x)
    keeps_task (node t) small w e d A V m g h = keeps_tree t small w e d A V m g h
    keeps_task (turns ts) small w e d A V m g h =
        keeps_turns There (trees_type ts) (p (turns ts)) _ (safe_block (trees_type ts) (trees_run p ts) (safe_trees parts_are_safe p safe ts small))
        (keeps_block There (trees_type ts) (trees_run p ts) (keeps_trees ts small w)) (again (turns ts) small w) e d A V m g h
    keeps_task (left_turns ts) small w e d A V m g h =
        keeps_left_turns There (trees_type ts) (p (left_turns ts)) _
        (safe_block (trees_type ts) (trees_run p ts) (safe_trees parts_are_safe p safe ts small))
        (keeps_block There (trees_type ts) (trees_run p ts) (keeps_trees ts small w)) (again (left_turns ts) small w) e d A V m g h

  keeps_level : (n : ℕ) → KeepsAgain (level n)
  keeps_level zero x small w e d A V m g h = tt
  keeps_level (suc n) x small w e d A V m g h = keeps_task (level n) (safe_level parts_are_safe n) (keeps_level n) x small w e d A V m g h

  pub keeps_eval : (t : Tree) → size t < 2 ^ 32 → HasForm t → KeepsRun There (tree_type t) (eval t)
  keeps_eval t small w e d A V m g h = keeps_level (suc m.gas) (node t) small w e d A V m g h

pub safe_run : (t : Tree) → size t < 2 ^ 32 → SafeRun (tree_type t) (eval t)
safe_run t small e d A V m g so = safe_level parts_are_safe (suc m.gas) (node t) small e d A V m g so
