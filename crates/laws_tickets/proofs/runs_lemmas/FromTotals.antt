-- Typed code keeps tickets, from the totals that evaluation keeps.
use Rattle.std.proofs.Common.{◌≡◌, suc, ◌+◌, List, [], ◌∷◌, refl, sym, ap, ◌∙◌, subst, arith}
use Rattle.std.specs.Prelude.{ℤ, ◌+ℤ◌, ◌-ℤ◌}
use Rattle.std.specs.List.{All}
use Rattle.std.proofs.lemmas.Int.{ints}
use Rattle.rules_data.specs.types.Kind.{Kind}
use Rattle.rules_data.specs.values.Val.{Val}
use Rattle.rules_data.specs.values.Tickets.{Identity}
use Rattle.rules_code.specs.typing.Typing.{Typing, goes, fails, bad}
use Rattle.rules_code.specs.typing.Nodes.{tree_type}
use Rattle.rules_code.specs.typing.Scripts.{Outline}
use Rattle.rules_code.specs.typing.Fits.{Known, AllFit}
use Rattle.rules_code.specs.steps.Changes.{amount_among, amount_in, minted_in, burnt_in}
use Rattle.rules_code.specs.evaluation.Surroundings.{Surroundings}
use Rattle.rules_code.specs.evaluation.Operations.{Issued, Tally, operation_tickets}
use Rattle.rules_code.specs.evaluation.Outcome.{Outcome, stack, failed, stuck}
use Rattle.rules_code.specs.evaluation.Evaluation.{eval}
use Rattle.laws_data.specs.types.Laws.{IsWellFormed}
use Rattle.laws_code.specs.evaluation.Laws.{IsType, IsGood, known, AreBalanced, LinearTickets}
use Rattle.laws_code.specs.evaluation.Laws as here
use Rattle.laws_tickets.specs.totals.Agreement.{Agrees, AllAgree, SeesAgreement}
use Rattle.laws_tickets.specs.runs.Laws.{KeepsTotal}
use Rattle.laws_tickets.specs.totals.Totals as ticket
use Rattle.laws_tickets.proofs.totals.ForCallers.{on_cons, issued_cons, fitting_agrees, script_is, outline_typed}
use Rattle.laws_tickets.proofs.runs_lemmas.Nodes.{totals}

all_tail : (P : Kind → Type 0) (a : Kind) (A : List Kind) → All P (a ∷ A) → All P A
all_tail P a A h = λ k d lt. h (suc k) d (omega arith)

stack_agrees : (w : Known) (A : List Kind) (V : List Val) → All IsType A → AllFit w A V → AllAgree A V
stack_agrees w [] [] h f = tt
stack_agrees w (a ∷ A) (x ∷ V) h f = (fitting_agrees w a x (h 0 a (omega arith)).0 f.0, stack_agrees w A V (all_tail IsType a A h) f.1)
stack_agrees w [] (x ∷ V) h f = absurd f
stack_agrees w (a ∷ A) [] h f = absurd f

sees : (e : Surroundings) → IsGood e → SeesAgreement e
sees e g hash c o at out =
    let k = g.contracts hash c at in
    let p = script_is c.script k.reading k.is_script in
    let same : p.types ≡ o = cc in
    let storage : k.reading.storage ≡ o.storage = p.storage ∙ ap (λ (z : Outline). z.storage) same in
    subst (λ a. Agrees a c.storage) storage
    (fitting_agrees (known e.contract_at []) k.reading.storage c.storage (subst IsWellFormed (sym p.storage) (outline_typed c.script p.types p.outlined).storage) k.fits)

on_same : (id : Identity) (V : List Val) → ticket.amount_on id V ≡ here.amount_on id V
on_same id [] = refl
on_same id (x ∷ V) = on_cons id x V ∙ ap (λ z. amount_in id x +ℤ z) (on_same id V)

issued_same : (id : Identity) (is : List Issued) → ticket.amount_issued id is ≡ here.amount_issued id is
issued_same id [] = refl
issued_same id (i ∷ is) = issued_cons id i is ∙ ap (λ z. amount_among id (operation_tickets i.operation) +ℤ z) (issued_same id is)

balance_sum : (w n bn mn v m bm mm w' n' v' m' : ℤ) → w +ℤ (n +ℤ bn -ℤ mn) ≡ v +ℤ (m +ℤ bm -ℤ mm) → w ≡ w' → n ≡ n' → v ≡ v' → m ≡ m' → w' +ℤ n' +ℤ bn +ℤ mm ≡ v' +ℤ m' +ℤ bm +ℤ mn
balance_sum w n bn mn v m bm mm w' n' v' m' e f g h i = omega (arith, ints)

balanced : (V : List Val) (m : Tally) (t : Typing) (o : Outcome) → KeepsTotal V m o → AreBalanced V m t o
balanced V m (goes B) (stack C W n) h = λ id.
    balance_sum (ticket.amount_on id W) (ticket.amount_issued id n.issued) (burnt_in id n.changes) (minted_in id n.changes)
    (ticket.amount_on id V) (ticket.amount_issued id m.issued) (burnt_in id m.changes) (minted_in id m.changes)
    (here.amount_on id W) (here.amount_issued id n.issued) (here.amount_on id V) (here.amount_issued id m.issued)
    (h.2 id) (on_same id W) (issued_same id n.issued) (on_same id V) (issued_same id m.issued)
balanced V m fails o h = tt
balanced V m (bad l) o h = tt
balanced V m (goes B) (failed f) h = tt
balanced V m (goes B) stuck h = tt

pub linear_tickets : LinearTickets
linear_tickets t e d A V m small s =
    balanced V m (tree_type t e.context A) (eval t e d A V m) (totals t e d A V m (sees e s.good) (stack_agrees (known e.contract_at m.issued) A V s.types s.fit))
