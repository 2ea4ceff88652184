-- Outcomes that are one, and leave no more gas than there was.
use Rattle.std.proofs.Common.{◌≡◌, ℕ, suc, ◌+◌, ◌*◌, ◌-◌, ◌<◌, ◌≤◌, Bool, true, false, List, Option, Some, None, refl, subst, arith}
use Rattle.std.specs.Prelude.{nat_lt, nat_le}
use Rattle.std.proofs.lemmas.Bool.{leb-true}
use Rattle.rules_text.specs.nodes.Limits.{block_limit}
use Rattle.rules_data.specs.declared.gas.Kind.{Kind as Priced}
use Rattle.rules_data.specs.gas.Prices.{Listed, price_of, cost}
use Rattle.rules_data.specs.types.Kind.{Kind}
use Rattle.rules_data.specs.values.Val.{Val}
use Rattle.rules_code.specs.steps.Failure.{Failure}
use Rattle.rules_code.specs.steps.Failure as f
use Rattle.rules_code.specs.steps.Step.{Step, done, fails, wrong}
use Rattle.rules_code.specs.instructions.Same.{same_kinds}
use Rattle.rules_code.specs.evaluation.Surroundings.{Surroundings}
use Rattle.rules_code.specs.evaluation.Operations.{Operation, Tally}
use Rattle.rules_code.specs.evaluation.Outcome.{Outcome, stack, failed, stuck, Go, Run, after, unless_stuck, only_if, with_gas, charge, opened, block, with_changes, finish}
use Rattle.rules_code.specs.evaluation.Branches.{paid}
use Rattle.rules_code.specs.evaluation.Loops.{ending}
use Rattle.rules_code.specs.evaluation.Issuing.{issued_where, issue}
use Rattle.laws_code.specs.evaluation.Laws.{IsCharged, LeftAtMost}

-- one outcome, with no more gas than this
pub record Near (g : ℕ) (o o' : Outcome) : Type 0 where
  pub same : o ≡ o'
  pub left : LeftAtMost g o

pub near_failed : (g : ℕ) (f : Failure) → Near g (failed f) (failed f)
near_failed g f = record { same = refl; left = tt }

pub near_stuck : (g : ℕ) → Near g stuck stuck
near_stuck g = record { same = refl; left = tt }

pub near_stack : (g : ℕ) (A : List Kind) (V : List Val) (m : Tally) → m.gas ≤ g → Near g (stack A V m) (stack A V m)
near_stack g A V m le = record { same = refl; left = le }

left_weaker : (g h : ℕ) (o : Outcome) → g ≤ h → LeftAtMost g o → LeftAtMost h o
left_weaker g h (stack A V m) le l = omega arith
left_weaker g h (failed f) le l = tt
left_weaker g h stuck le l = tt

pub near_weaker : (g h : ℕ) (o o' : Outcome) → g ≤ h → Near g o o' → Near h o o'
near_weaker g h o o' le n = record { same = n.same; left = left_weaker g h o le n.left }

abbrev pub NearGo : ℕ → Go → Go → Type 0
NearGo g k l = (A : List Kind) (V : List Val) (m : Tally) → m.gas ≤ g → Near g (k A V m) (l A V m)

abbrev pub NearRun : ℕ → Run → Run → Type 0
NearRun g r s = (e : Surroundings) → IsCharged e.prices → (d : ℕ) (A : List Kind) (V : List Val) (m : Tally) → m.gas ≤ g → Near m.gas (r e d A V m) (s e d A V m)

-- the same with less gas alone
abbrev pub NearBelow : ℕ → Run → Run → Type 0
NearBelow g r s = (e : Surroundings) → IsCharged e.prices → (d : ℕ) (A : List Kind) (V : List Val) (m : Tally) → m.gas < g → Near m.gas (r e d A V m) (s e d A V m)

pub run_weaker : (g h : ℕ) (r s : Run) → h ≤ g → NearRun g r s → NearRun h r s
run_weaker g h r s le n e c d A V m less = n e c d A V m (omega arith)

pub below_run : (g h : ℕ) (r s : Run) → h < g → NearBelow g r s → NearRun h r s
below_run g h r s lt n e c d A V m le = n e c d A V m (omega arith)

after_same : (g : ℕ) (o : Outcome) (k l : Go) → LeftAtMost g o → NearGo g k l → Near g (after o k) (after o l)
after_same g (stack A V m) k l le n = n A V m le
after_same g (failed f) k l le n = near_failed g f
after_same g stuck k l le n = near_stuck g

pub near_after : (g : ℕ) (o o' : Outcome) (k l : Go) → Near g o o' → NearGo g k l → Near g (after o k) (after o' l)
near_after g o o' k l n h = subst (λ x. Near g (after o k) (after x l)) n.same (after_same g o k l n.left h)

pub near_only_if : (g : ℕ) (b : Bool) (o o' : Outcome) → Near g o o' → Near g (only_if b o) (only_if b o')
near_only_if g true o o' n = n
near_only_if g false o o' n = near_stuck g

pub near_ending : (g : ℕ) (o o' : Outcome) (B : List Kind) (k l : Go) → Near g o o' → NearGo g k l → Near g (ending o B k) (ending o' B l)
near_ending g o o' B k l n h = near_after g o o' _ _ n (λ C W m le. near_only_if g (same_kinds C B) _ _ (h C W m le))

pub near_unless : {A : Type 0} (g : ℕ) (o : Option A) (k l : A → Outcome) → ((x : A) → Near g (k x) (l x)) → Near g (unless_stuck o k) (unless_stuck o l)
near_unless g None k l n = near_stuck g
near_unless g (Some x) k l n = n x

-- ---- gas

abbrev pub NearPaid : ℕ → (Tally → Outcome) → (Tally → Outcome) → Type 0
NearPaid g k l = (n : Tally) → n.gas < g → Near n.gas (k n) (l n)

near_with_gas : (b : Bool) (c : ℕ) (m : Tally) (k l : Tally → Outcome) → 1 ≤ c → (b ≡ true → c ≤ m.gas) → NearPaid m.gas k l → Near m.gas (with_gas b c m k) (with_gas b c m l)
near_with_gas true c m k l one le n =
    let within = le refl in
    near_weaker (m.gas - c) m.gas _ _ (omega arith) (n (record m { gas = m.gas - c }) (omega arith))
near_with_gas false c m k l one le n = near_failed m.gas f.out_of_gas

cost_of_one : (base more : ℕ) → 1 ≤ base → 1 ≤ base + more
cost_of_one base more le = omega arith

pub near_charge : (prices : Listed) (kind : Priced) (weight : ℕ) (m : Tally) (k l : Tally → Outcome) → IsCharged prices → NearPaid m.gas k l → Near m.gas (charge prices kind weight m k) (charge prices kind weight m l)
near_charge prices kind weight m k l c n =
    near_with_gas (nat_le (cost prices kind weight) m.gas) (cost prices kind weight) m k l (cost_of_one (price_of prices kind).base ((price_of prices kind).coefficient * weight) (c kind)) (leb-true (cost prices kind weight) m.gas) n

pub near_paid : (e : Surroundings) (kind : Priced) (m : Tally) (k l : Tally → Outcome) → IsCharged e.prices → NearPaid m.gas k l → Near m.gas (paid e kind m k) (paid e kind m l)
near_paid e kind m k l c n = near_charge e.prices kind 0 m k l c n

-- ---- blocks, steps and operations

near_opened : (b : Bool) (g : ℕ) (r s : Run) → NearRun g r s → NearRun g (opened b r) (opened b s)
near_opened true g r s n e c d A V m le = n e c (suc d) A V m le
near_opened false g r s n e c d A V m le = near_failed m.gas f.depth_limit

pub near_block : (g : ℕ) (r s : Run) → NearRun g r s → NearRun g (block r) (block s)
near_block g r s n e c d A V m le = near_opened (nat_lt d block_limit) g r s n e c d A V m le

pub near_finish : (s : Step) (B : List Kind) (m : Tally) → Near m.gas (finish s B m) (finish s B m)
near_finish (done V changes) B m = near_stack m.gas B V (with_changes m changes) (omega arith)
near_finish (fails f) B m = near_failed m.gas f
near_finish wrong B m = near_stuck m.gas

near_issued : (b : Bool) (o : Operation) (m : Tally) (k : Val → Tally → Outcome) → ((v : Val) (n : Tally) → n.gas ≡ m.gas → Near m.gas (k v n) (k v n)) → Near m.gas (issued_where b o m k) (issued_where b o m k)
near_issued true o m k n = n _ _ refl
near_issued false o m k n = near_failed m.gas f.too_many_operations

pub near_issue : (o : Operation) (m : Tally) (k : Val → Tally → Outcome) → ((v : Val) (n : Tally) → n.gas ≡ m.gas → Near m.gas (k v n) (k v n)) → Near m.gas (issue o m k) (issue o m k)
near_issue o m k n = near_issued (nat_lt m.operations 65535) o m k n
