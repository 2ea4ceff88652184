-- Each instruction, with the table that lists the price of each kind.
use Rattle.std.proofs.Common.{◌≡◌, ℕ, Bool, true, false, List, [], ◌∷◌, ◌++◌, Option, Some, None, refl}
use Rattle.std.specs.Prelude.{nat_lt}
use Rattle.rules_text.specs.nodes.Limits.{block_limit}
use Rattle.rules_text.specs.nodes.Tree.{Tree}
use Rattle.rules_data.specs.declared.gas.Kind.TheVariants as g
use Rattle.rules_data.specs.types.Kind.{Kind}
use Rattle.rules_data.specs.values.Val.{Val}
use Rattle.rules_data.specs.values.Val as v
use Rattle.rules_code.specs.instructions.Rules.{Ruled, ruled, faulty}
use Rattle.rules_code.specs.instructions.Straight.{Straight, on_operations, OperationRow}
use Rattle.rules_code.specs.instructions.Straight as i
use Rattle.rules_code.specs.steps.Costs.{kind_of, weight_of}
use Rattle.rules_code.specs.evaluation.Contracts.{Viewed, viewed}
use Rattle.rules_code.specs.evaluation.Surroundings.{Surroundings}
use Rattle.rules_code.specs.evaluation.Operations.{Tally}
use Rattle.rules_code.specs.evaluation.Operating.{view_run, operation_run}
use Rattle.rules_code.specs.evaluation.Outcome.{Run, block, opened, charge, unless_stuck}
use Rattle.rules_code.specs.evaluation.Branches.{paid, chosen, if_run, if_none_run, if_left_run, if_cons_run, dip_run}
use Rattle.rules_code.specs.evaluation.Items.{items, mapped_items, with_items, rebuilt}
use Rattle.rules_code.specs.evaluation.Loops.{ending, turn_where, turns_run, left_turns_run, loop_run, loop_left_run, each_run, iter_run, map_each_run, map_run}
use Rattle.rules_code.specs.evaluation.Calls.{exec_run}
use Rattle.rules_code.specs.evaluation.Shapes.{on_top, on_truth}
use Rattle.rules_code.specs.evaluation.Straight.{row_run, ruled_run}
use Rattle.laws_commands.proofs.resuming_lemmas.prices.Plain.{plainly, moved}

chosen_same : (b : Bool) (r s : Run) (e : Surroundings) (d : ℕ) (A : List Kind) (V : List Val) (m : Tally) →
    chosen b r s (plainly e) d A V m ≡ chosen b (moved r) (moved s) e d A V m
chosen_same true r s e d A V m = refl
chosen_same false r s e d A V m = refl

turn_same : (b : Bool) (r s : Run) (e : Surroundings) (d : ℕ) (A : List Kind) (V : List Val) (m : Tally) →
    turn_where b r s (plainly e) d A V m ≡ turn_where b (moved r) (moved s) e d A V m
turn_same true r s e d A V m = refl
turn_same false r s e d A V m = refl

each_same : (r : Run) (a : Kind) (xs : List Val) (e : Surroundings) (d : ℕ) (A : List Kind) (V : List Val) (m : Tally) →
    each_run r a xs (plainly e) d A V m ≡ each_run (moved r) a xs e d A V m
each_same r a [] e d A V m = refl
each_same r a (x ∷ xs) e d A V m = λ k.
    paid e g.Turn m (λ m. ending (r (plainly e) d (a ∷ A) (x ∷ V) m) A (λ B W m. each_same r a xs e d B W m k))

map_each_same : (r : Run) (a b : Kind) (made : List Val → Val) (c : Kind) (ys xs : List Val) (e : Surroundings) (d : ℕ) (A : List Kind)
    (V : List Val)
    (m : Tally) → map_each_run r a b made c ys xs (plainly e) d A V m ≡ map_each_run (moved r) a b made c ys xs e d A V m
map_each_same r a b made c ys [] e d A V m = refl
map_each_same r a b made c ys (x ∷ xs) e d A V m = λ k.
    paid e g.Turn m (λ m. ending (r (plainly e) d (a ∷ A) (x ∷ V) m) (b ∷ A) (λ B W m.
    on_top B W (λ _ B y W. map_each_same r a b made c (ys ++ y ∷ []) xs e d B W m k)))

view_same : (again : Tree → Run) (e : Surroundings) (d : ℕ) (a b : Kind) (o : Option Viewed) (x : Val) (A : List Kind) (V : List Val)
    (m : Tally) →
    view_run again (plainly e) d a b o x A V m ≡ view_run (λ t. moved (again t)) e d a b o x A V m
view_same again e d a b None x A V m = refl
view_same again e d a b (Some w) x A V m = refl

module _ (e : Surroundings) (d : ℕ) (A : List Kind) (V : List Val) (m : Tally) where
  opened_same : (b : Bool) (r : Run) → opened b r (plainly e) d A V m ≡ opened b (moved r) e d A V m
  opened_same true r = refl
  opened_same false r = refl

  pub block_same : (r : Run) → block r (plainly e) d A V m ≡ block (moved r) e d A V m
  block_same r = opened_same (nat_lt d block_limit) r

  pub if_none_same : (r s : Run) → if_none_run r s (plainly e) d A V m ≡ if_none_run (moved r) (moved s) e d A V m
  if_none_same r s = refl

  pub if_left_same : (r s : Run) → if_left_run r s (plainly e) d A V m ≡ if_left_run (moved r) (moved s) e d A V m
  if_left_same r s = refl

  pub if_cons_same : (r s : Run) → if_cons_run r s (plainly e) d A V m ≡ if_cons_run (moved r) (moved s) e d A V m
  if_cons_same r s = refl

  pub dip_same : (n : ℕ) (r : Run) → dip_run n r (plainly e) d A V m ≡ dip_run n (moved r) e d A V m
  dip_same n r = refl

  pub loop_same : (r : Run) → loop_run r (plainly e) d A V m ≡ loop_run (moved r) e d A V m
  loop_same r = refl

  pub loop_left_same : (r : Run) → loop_left_run r (plainly e) d A V m ≡ loop_left_run (moved r) e d A V m
  loop_left_same r = refl

  pub left_turns_same : (r s : Run) → left_turns_run r s (plainly e) d A V m ≡ left_turns_run (moved r) (moved s) e d A V m
  left_turns_same r s = refl

  pub exec_same : (again : Tree → Run) → exec_run again (plainly e) d A V m ≡ exec_run (λ t. moved (again t)) e d A V m
  exec_same again = refl

  pub if_same : (r s : Run) → if_run r s (plainly e) d A V m ≡ if_run (moved r) (moved s) e d A V m
  if_same r s = λ k. on_truth A V (λ A b V. paid e g.If m (λ m. chosen_same b r s e d A V m k))

  pub turns_same : (r s : Run) → turns_run r s (plainly e) d A V m ≡ turns_run (moved r) (moved s) e d A V m
  turns_same r s = λ k. on_truth A V (λ A b V. turn_same b r s e d A V m k)

  pub iter_same : (r : Run) → iter_run r (plainly e) d A V m ≡ iter_run (moved r) e d A V m
  iter_same r = λ k. on_top A V (λ c A x V. unless_stuck (items c x) (λ i. paid e g.Iter m (λ m. each_same r i.kind i.values e d A V m k)))

  pub map_same : (result : Kind → List Kind → Option Kind) (r : Run) →
      map_run result r (plainly e) d A V m ≡ map_run result (moved r) e d A V m
  map_same result r = λ k.
      on_top A V (λ c A x V. unless_stuck (mapped_items c x) (λ i. unless_stuck (result i.kind A) (λ b. paid e g.Map m (λ m.
      map_each_same r i.kind b (rebuilt x) (with_items c b) [] i.values e d A V m k))))

-- ---- instructions without bodies

operation_same : (again : Tree → Run) (row : OperationRow) (e : Surroundings) (d : ℕ) (A : List Kind) (V : List Val) (m : Tally) →
    operation_run again row (plainly e) d A V m ≡ operation_run (λ t. moved (again t)) row e d A V m
operation_same again (i.view name a b) e d A (x ∷ v.bytes address ∷ V) m = view_same again e d a b
    (viewed e.contract_at name a b address) x A V m
operation_same again row e d A V m = refl

row_same : (again : Tree → Run) (row : Straight) (e : Surroundings) (d : ℕ) (A : List Kind) (V : List Val) (m : Tally) →
    row_run again row (plainly e) d A V m ≡ row_run (λ t. moved (again t)) row e d A V m
row_same again (on_operations row) e d A V m = operation_same again row e d A V m
row_same again row e d A V m = refl

pub ruled_same : (again : Tree → Run) (r : Ruled) (e : Surroundings) (d : ℕ) (A : List Kind) (V : List Val) (m : Tally) →
    ruled_run again r (plainly e) d A V m ≡ ruled_run (λ t. moved (again t)) r e d A V m
ruled_same again (ruled row B) e d A V m = λ k. charge e.prices (kind_of row) (weight_of row V) m (λ m. row_same again row e d B V m k)
ruled_same again (faulty l) e d A V m = refl
