-- What a node that is typed leaves: values that fit their types, and the tickets that there were.
use Rattle.std.proofs.Common.{◌≡◌, ◌<◌, ◌^◌, ℕ, List, [], ◌∷◌, refl, sym, ap, ◌∙◌, subst, arith}
use Rattle.std.specs.Prelude.{ℤ, ◌+ℤ◌, ◌-ℤ◌}
use Rattle.std.specs.List.{AllByRecursion}
use Rattle.std.proofs.lemmas.Int.{ints}
use Rattle.rules_text.specs.nodes.Tree.{Tree, size}
use Rattle.rules_data.specs.types.Kind.{Kind}
use Rattle.rules_data.specs.values.Val.{Val}
use Rattle.rules_data.specs.values.Tickets.{Identity}
use Rattle.rules_code.specs.typing.Typing.{Typing, goes, fails, bad}
use Rattle.rules_code.specs.typing.Nodes.{tree_type}
use Rattle.rules_code.specs.typing.Scripts.{Outline}
use Rattle.rules_code.specs.typing.Fits.{Leads}
use Rattle.rules_code.specs.steps.Changes.{amount_among, amount_in, minted_in, burnt_in}
use Rattle.rules_code.specs.evaluation.Surroundings.{Surroundings}
use Rattle.rules_code.specs.evaluation.Operations.{Issued, Tally, operation_tickets}
use Rattle.rules_code.specs.evaluation.Outcome.{stack, stuck}
use Rattle.rules_code.specs.evaluation.Evaluation.{node, tree_run, eval_task, eval}
use Rattle.laws_data.specs.types.Laws.{IsWellFormed}
use Rattle.laws_code.specs.evaluation.Laws.{IsCharged, IsGood, known}
use Rattle.laws_code.specs.evaluation.Laws as here
use Rattle.laws_code.proofs.evaluation_lemmas.ForCallers.{eval_is}
use Rattle.laws_code.specs.stacks.Sound.{seen, AllTypes, Sound, After, KeepsFrom}
use Rattle.laws_code.proofs.typed.ForCallers.{Types, contexts}
use Rattle.laws_code.proofs.control.ForCallers.{tree_types, safe_eval}
use Rattle.laws_code.proofs.safety_lemmas.ForCallers.{parts_are_safe}
use Rattle.laws_tickets.specs.totals.Agreement.{Agrees, SeesAgreement}
use Rattle.laws_tickets.specs.totals.Totals as ticket
use Rattle.laws_tickets.proofs.totals.ForCallers.{on_cons, issued_cons, fitting_agrees, all_fitting_agree, script_is, outline_typed}
use Rattle.laws_tickets.specs.runs.Laws.{KeepsTotal}
use Rattle.laws_tickets.proofs.runs_lemmas.ForCallers.{totals}

-- ---- amounts in both words

pub on_same : (id : Identity) (V : List Val) → ticket.amount_on id V ≡ here.amount_on id V
on_same id [] = refl
on_same id (x ∷ V) = on_cons id x V ∙ ap (λ z. amount_in id x +ℤ z) (on_same id V)

pub issued_same : (id : Identity) (is : List Issued) → ticket.amount_issued id is ≡ here.amount_issued id is
issued_same id [] = refl
issued_same id (i ∷ is) = issued_cons id i is ∙ ap (λ z. amount_among id (operation_tickets i.operation) +ℤ z) (issued_same id is)

-- ---- what there is agrees with its types

all_well : (A : List Kind) → AllTypes A → AllByRecursion IsWellFormed A
all_well [] h = tt
all_well (a ∷ A) h = (h.0.0, all_well A h.1)

sees : (e : Surroundings) → IsGood e → SeesAgreement e
sees e g hash c o there out =
    let k = g.contracts hash c there in
    let p = script_is c.script k.reading k.is_script in
    let same : p.types ≡ o = cc in
    let storage : k.reading.storage ≡ o.storage = p.storage ∙ ap (λ (z : Outline). z.storage) same in
    subst (λ a. Agrees a c.storage) storage
    (fitting_agrees (known e.contract_at []) k.reading.storage c.storage (subst IsWellFormed (sym p.storage) (outline_typed c.script p.types p.outlined).storage) k.fits)

-- ---- the node

total_sum : (w n bn mn v m bm mm w' n' v' m' : ℤ) → w +ℤ (n +ℤ bn -ℤ mn) ≡ v +ℤ (m +ℤ bm -ℤ mm) → w ≡ w' → n ≡ n' → v ≡ v' → m ≡ m' → w' +ℤ n' +ℤ bn +ℤ mm ≡ v' +ℤ m' +ℤ bm +ℤ mn
total_sum w n bn mn v m bm mm w' n' v' m' e f g h i = omega (arith, ints)

-- typed code that goes on
pub record Leaves (e : Surroundings) (m : Tally) (V : List Val) (B : List Kind) (W : List Val) (n : Tally) : Type 0 where
  pub types : AllTypes B
  pub after : After (seen e) m.issued m.changes V B W n
  pub totals : (id : Identity) → here.IsBalanced id V m W n

leaves : (e : Surroundings) (m : Tally) (V : List Val) (t : Typing) (M B : List Kind) (W : List Val) (n : Tally) → Leads t M → Types t →
    KeepsFrom (seen e) m.issued m.changes V t (stack B W n) → KeepsTotal V m (stack B W n) → Leaves e m V M W n
leaves e m V (goes C) M B W n leads types k h =
    subst (λ X. Leaves e m V X W n) leads (record {
      types = types;
      after = k.1;
      totals = λ id.
          total_sum (ticket.amount_on id W) (ticket.amount_issued id n.issued) (burnt_in id n.changes) (minted_in id n.changes)
          (ticket.amount_on id V) (ticket.amount_issued id m.issued) (burnt_in id m.changes) (minted_in id m.changes)
          (here.amount_on id W) (here.amount_issued id n.issued) (here.amount_on id V) (here.amount_issued id m.issued)
          (h.2 id) (on_same id W) (issued_same id n.issued) (on_same id V) (issued_same id m.issued);
    })
leaves e m V fails M B W n leads types k h = absurd k
leaves e m V (bad l) M B W n leads types k h = absurd leads

pub node_leaves : (e : Surroundings) (d : ℕ) (t : Tree) (A M B : List Kind) (V W : List Val) (m n : Tally) → IsCharged e.prices → size t < 2 ^ 32 → Leads (tree_type t e.context A) M →
    IsGood e → Sound (seen e) m.issued m.changes A V → tree_run eval_task t e d A V m ≡ stack B W n → Leaves e m V M W n
node_leaves e d t A M B V W m n charged small leads good sound same =
    let whole : eval t e d A V m ≡ stack B W n = eval_is (node t) e charged d A V m ∙ same in
    leaves e m V (tree_type t e.context A) M B W n leads (tree_types t e.context (contexts e good) A sound.types)
    (subst (KeepsFrom (seen e) m.issued m.changes V (tree_type t e.context A)) whole (safe_eval parts_are_safe t small e d A V m good sound))
    (subst (KeepsTotal V m) whole (totals t e d A V m (sees e good) (all_fitting_agree (known e.contract_at m.issued) A V (all_well A sound.types) sound.fit)))

pub node_sound : (e : Surroundings) (d : ℕ) (t : Tree) (A M : List Kind) (V : List Val) (m : Tally) → size t < 2 ^ 32 → Leads (tree_type t e.context A) M → IsGood e →
    Sound (seen e) m.issued m.changes A V → eval t e d A V m ≡ stuck → ⊥
node_sound e d t A M V m small leads good sound same =
    by (tree_type t e.context A) leads (subst (KeepsFrom (seen e) m.issued m.changes V (tree_type t e.context A)) same (safe_eval parts_are_safe t small e d A V m good sound))
  where
    by : (x : Typing) → Leads x M → KeepsFrom (seen e) m.issued m.changes V x stuck → ⊥
    by (goes B) l h = h
    by fails l h = h
    by (bad i) l h = l
