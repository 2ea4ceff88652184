-- Arguments with their typings and their runs.
use Rattle.std.proofs.Common.{ℕ, ◌<◌, ◌^◌, Bool, true, false, List, [], ◌∷◌}
use Rattle.std.specs.Prelude.{if◌then◌else◌}
use Rattle.rules_text.specs.nodes.Tree.{Trees, size, sizes}
use Rattle.rules_data.specs.types.Kind.{Kind}
use Rattle.rules_data.specs.types.Kind as k
use Rattle.rules_code.specs.instructions.Types as ty
use Rattle.rules_data.specs.values.Val.{Val}
use Rattle.rules_code.specs.typing.Typing.{Typing, goes, fails, bad, Typer, shift}
use Rattle.rules_code.specs.typing.Typing as typing
use Rattle.rules_code.specs.typing.Stacks as asked
use Rattle.rules_code.specs.typing.Acts as acts
use Rattle.rules_code.specs.typing.Nodes.{tree_type, trees_type}
use Rattle.rules_code.specs.evaluation.Surroundings.{Surroundings}
use Rattle.rules_code.specs.evaluation.Operations.{Tally}
use Rattle.rules_code.specs.evaluation.Outcome.{Outcome, stuck, Run}
use Rattle.rules_code.specs.evaluation.Evaluation.{Task, node, turns, left_turns, Arg, other, no_body, one_body, two_bodies, last_body}
use Rattle.rules_code.specs.evaluation.Evaluation as run
use Rattle.laws_code.specs.stacks.Sound.{seen, KeepsFrom, SafeRun}
use Rattle.laws_code.proofs.control.Branches.{turns_type, left_turns_type}

-- ---- what is evaluated with less gas

abbrev pub task_type : Task → Typer
task_type (node t) c A = tree_type t c A
task_type (turns ts) c A = turns_type (trees_type ts) c A
task_type (left_turns ts) c A = left_turns_type (trees_type ts) c A

abbrev pub IsSmall : Task → Type 0
IsSmall (node t) = size t < 2 ^ 32
IsSmall (turns ts) = sizes ts < 2 ^ 32
IsSmall (left_turns ts) = sizes ts < 2 ^ 32

abbrev pub SafeAgain : (Task → Run) → Type 0
SafeAgain p = (x : Task) → IsSmall x → SafeRun (task_type x) (p x)

-- ---- arguments

-- an argument's typing and its run: that of a body, or a fault
pub data SafeArg : Typer → Arg → Type 0 where
  safe_body : (at : ℕ) (ts : Trees) (r : Run) → sizes ts < 2 ^ 32 → SafeRun (λ c A. shift at (trees_type ts c A)) r →
      SafeArg (λ c A. shift at (trees_type ts c A)) (run.body ts r)
  safe_other : (at : ℕ) → SafeArg (λ c A. bad at) other

pub data SafeArgs : List Typer → List Arg → Type 0 where
  safe_none : SafeArgs [] []
  safe_more : {b : Typer} {a : Arg} {bs : List Typer} {us : List Arg} → SafeArg b a → SafeArgs bs us → SafeArgs (b ∷ bs) (a ∷ us)

-- a fault, about which nothing is promised
abbrev pub IsBad : Typing → Type 0
IsBad (goes B) = ⊥
IsBad fails = ⊥
IsBad (bad l) = Unit {0}

module _ (e : Surroundings) (m : Tally) (V : List Val) where
  abbrev pub Promise : Typing → Outcome → Type 0
  Promise t o = KeepsFrom (seen e) m.issued m.changes V t o

  pub of_bad : (t : Typing) (o : Outcome) → IsBad t → Promise t o
  of_bad (goes B) o h = absurd h
  of_bad fails o h = absurd h
  of_bad (bad l) o h = tt

  pub safe_no_body : (bs : List Typer) (us : List Arg) (t : Typing) (o : Outcome) → SafeArgs bs us → Promise t o →
      Promise (acts.no_body bs t) (no_body us o)
  safe_no_body bs us t o safe_none n = n
  safe_no_body bs us t o (safe_more a rest) n = tt

  pub safe_one_body : (bs : List Typer) (us : List Arg) (next : Typer → Typing) (l : Trees → Run → Outcome) → SafeArgs bs us →
      ((at : ℕ) → IsBad (next (λ c A. bad at))) →
      ((at : ℕ) (ts : Trees) (r : Run) → sizes ts < 2 ^ 32 → SafeRun (λ c A. shift at (trees_type ts c A)) r →
      Promise (next (λ c A. shift at (trees_type ts c A))) (l ts r)) →
      Promise (acts.one_body bs next) (one_body us l)
  safe_one_body bs us next l safe_none n h = tt
  safe_one_body bs us next l (safe_more (safe_other at) safe_none) n h = of_bad _ stuck (n at)
  safe_one_body bs us next l (safe_more (safe_other at) (safe_more b rest)) n h = tt
  safe_one_body bs us next l (safe_more (safe_body at ts r small s) safe_none) n h = h at ts r small s
  safe_one_body bs us next l (safe_more (safe_body at ts r small s) (safe_more b rest)) n h = tt

  pub safe_two_bodies : (bs : List Typer) (us : List Arg) (next : Typer → Typer → Typing) (l : Run → Run → Outcome) →
      SafeArgs bs us →
      ((at : ℕ) (b : Typer) → IsBad (next (λ c A. bad at) b)) → ((at : ℕ) (b : Typer) → IsBad (next b (λ c A. bad at))) →
      ((b d : Typer) (r s : Run) → SafeRun b r → SafeRun d s → Promise (next b d) (l r s)) →
      Promise (acts.two_bodies bs next) (two_bodies us l)
  safe_two_bodies bs us next l safe_none n o h = tt
  safe_two_bodies bs us next l (safe_more (safe_other at) safe_none) n o h = tt
  safe_two_bodies bs us next l (safe_more (safe_other at) (safe_more b safe_none)) n o h = of_bad _ stuck (n at _)
  safe_two_bodies bs us next l (safe_more (safe_other at) (safe_more b (safe_more c rest))) n o h = tt
  safe_two_bodies bs us next l (safe_more (safe_body at ts r small s) safe_none) n o h = tt
  safe_two_bodies bs us next l (safe_more (safe_body at ts r small s) (safe_more (safe_other at') safe_none)) n o h =
      of_bad _ stuck (o at' _)
  safe_two_bodies bs us next l (safe_more (safe_body at ts r small s) (safe_more (safe_other at') (safe_more c rest))) n o h = tt
  safe_two_bodies bs us next l (safe_more (safe_body at ts r small s) (safe_more (safe_body at' ts' r' small' s') safe_none)) n
      o h = h _ _ r r' s s'
  safe_two_bodies bs us next l (safe_more (safe_body at ts r small s)
      (safe_more (safe_body at' ts' r' small' s') (safe_more c rest))) n o h = tt

  pub safe_last_body : (bs : List Typer) (us : List Arg) (next : Typer → Typing) (l : Run → Outcome) → SafeArgs bs us →
      ((at : ℕ) → IsBad (next (λ c A. bad at))) →
      ((b : Typer) (r : Run) → SafeRun b r → Promise (next b) (l r)) → Promise (acts.last_body bs next) (last_body us l)
  safe_last_body bs us next l safe_none n h = tt
  safe_last_body bs us next l (safe_more (safe_other at) safe_none) n h = of_bad _ stuck (n at)
  safe_last_body bs us next l (safe_more (safe_body at ts r small s) safe_none) n h = h _ r s
  safe_last_body bs us next l (safe_more (safe_other at) (safe_more b rest)) n h = safe_last_body _ _ next l
      (safe_more b rest) n h
  safe_last_body bs us next l (safe_more (safe_body at ts r small s) (safe_more b rest)) n h = safe_last_body _ _ next l
      (safe_more b rest) n h

-- ---- faults of bodies are faults

pub bad_if : (b : Bool) (t : Typing) → IsBad t → IsBad (if b then t else bad 0)
bad_if true t h = h
bad_if false t h = tt

pub bad_bool : (A : List Kind) (next : List Kind → Typing) → ((A : List Kind) → IsBad (next A)) → IsBad (asked.on_bool A next)
bad_bool (ty.bool ∷ A) next h = h A
bad_bool _ next h = tt

pub bad_option : (A : List Kind) (next : Kind → List Kind → Typing) → ((a : Kind) (A : List Kind) → IsBad (next a A)) →
    IsBad (asked.on_option A next)
bad_option (k.option a ∷ A) next h = h a A
bad_option _ next h = tt

pub bad_or : (A : List Kind) (next : Kind → Kind → List Kind → Typing) → ((a b : Kind) (A : List Kind) → IsBad (next a b A)) →
    IsBad (asked.on_or A next)
bad_or (k.or a b ∷ A) next h = h a b A
bad_or _ next h = tt

pub bad_list : (A : List Kind) (next : Kind → List Kind → Typing) → ((a : Kind) (A : List Kind) → IsBad (next a A)) →
    IsBad (asked.on_list A next)
bad_list (k.list a ∷ A) next h = h a A
bad_list _ next h = tt

pub bad_parts : (A : List Kind) (next : Kind → List Kind → Typing) → ((a : Kind) (A : List Kind) → IsBad (next a A)) →
    IsBad (asked.on_parts A next)
bad_parts (k.list a ∷ A) next h = h a A
bad_parts (k.set a ∷ A) next h = h a A
bad_parts (k.map a b ∷ A) next h = h (k.pair a b) A
bad_parts _ next h = tt

pub bad_mapped : (A : List Kind) (next : Kind → (Kind → Kind) → List Kind → Typing) →
    ((a : Kind) (new : Kind → Kind) (A : List Kind) → IsBad (next a new A)) → IsBad (asked.on_mapped A next)
bad_mapped (k.list a ∷ A) next h = h a k.list A
bad_mapped (k.option a ∷ A) next h = h a k.option A
bad_mapped (k.map a b ∷ A) next h = h (k.pair a b) (k.map a) A
bad_mapped _ next h = tt

pub bad_second : (t : Typing) (l : ℕ) → IsBad (typing.join t (bad l))
bad_second (goes B) l = tt
bad_second fails l = tt
bad_second (bad m) l = tt
