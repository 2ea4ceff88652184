-- How code ends that makes lists longer by one item at most for each unit of gas, and how such ends are put together.
use Rattle.std.proofs.Common.{◌≡◌, ◌≤◌, ◌<◌, ◌+◌, ◌-◌, ◌*◌, ℕ, length, suc, Bool, true, false, List, [], ◌∷◌, Option, Some, None, refl, arith}
use Rattle.std.specs.Prelude.{nat_lt, nat_le}
use Rattle.std.proofs.lemmas.Bool.{leb-true}
use Rattle.rules_text.specs.nodes.Limits.{byte_limit, block_limit, operation_limit}
use Rattle.rules_text.specs.nodes.Tree.{size}
use Rattle.rules_data.specs.declared.gas.Kind.{Kind as Priced}
use Rattle.rules_data.specs.gas.Prices.{price_of, cost}
use Rattle.rules_data.specs.types.Kind.{Kind}
use Rattle.rules_data.specs.values.Val.{Val}
use Rattle.rules_data.specs.values.Val as v
use Rattle.rules_code.specs.instructions.Arguments.{Found, found, fault}
use Rattle.rules_code.specs.instructions.Same.{same_kinds}
use Rattle.rules_code.specs.typing.Typing.{Typing, goes, fails, bad}
use Rattle.rules_code.specs.steps.Environment.{Environment}
use Rattle.rules_code.specs.steps.Step.{Step, done, wrong}
use Rattle.rules_code.specs.steps.Step as step
use Rattle.rules_code.specs.evaluation.Surroundings.{Contract, Surroundings}
use Rattle.rules_code.specs.evaluation.Operations.{Operation, transfer, origination, event, Issued, Tally}
use Rattle.rules_code.specs.evaluation.Outcome.{Outcome, stack, failed, stuck, Go, Run, after, unless_stuck, only_if, with_gas, charge, opened, block, finish}
use Rattle.rules_code.specs.evaluation.Branches.{paid}
use Rattle.rules_code.specs.evaluation.Loops.{ending}
use Rattle.rules_code.specs.evaluation.Issuing.{with_operation, issued_where, issue}
use Rattle.rules_code.specs.evaluation.Given.{on_found, on_goes}
use Rattle.laws_commands.specs.reached.Counted.{StackWithin, EnvironmentWithin, OperationWithin, IssuedWithin, ContractWithin, Begins, Ends}
use Rattle.laws_commands.proofs.reached_lemmas.Steps.{Keeps, more_lists, more_stack}
use Rattle.laws_commands.proofs.common.Numbers.{rises}
use Rattle.laws_commands.proofs.common.Lists.{all_append}

pub same_gas : (n : ℕ) → n ≤ n
same_gas n = omega arith

pub below : (a b : ℕ) → a < b → a ≤ b
below a b h = omega (arith, h)

pub still_below : (a b c : ℕ) → a ≤ b → b < c → a < c
still_below a b c h g = omega (arith, h, g)

pub more_operation : (n k : ℕ) (o : Operation) → n ≤ k → OperationWithin n o → OperationWithin k o
more_operation n k (transfer argument amount destination) le h = more_lists n k argument le h
more_operation n k (origination delegate amount script storage hash) le h = (rises (size script) n k h.0 le, more_lists n k storage le h.1)
more_operation n k (event tag kind value) le h = tt

pub more_issued : (n k : ℕ) (is : List Issued) → n ≤ k → IssuedWithin n is → IssuedWithin k is
more_issued n k [] le h = tt
more_issued n k (i ∷ is) le h = (more_operation n k i.operation le h.0, more_issued n k is le h.1)

pub more_contract : (n k : ℕ) (c : Contract) → n ≤ k → ContractWithin n c → ContractWithin k c
more_contract n k c le h = (rises (size c.script) n k h.0 le, more_lists n k c.storage le h.1)

under_limit : (a n k : ℕ) → a < n → n ≤ k → a < k
under_limit a n k h g = omega (arith, h, g)

pub more_environment : (n k : ℕ) (e : Environment) → n ≤ k → EnvironmentWithin n e → EnvironmentWithin k e
more_environment n k e le h = record {
  chain = rises (length e.chain) n k h.chain le;
  source = under_limit (length e.source) n k h.source le;
  sender = rises (length e.sender) n k h.sender le;
  own = h.own;
}

cost_of_one : (base more : ℕ) → 1 ≤ base → 1 ≤ base + more
cost_of_one base more le = omega (arith, le)

module _ (most : ℕ) where
  pub less_room : (g h : ℕ) → g ≤ h → most - h ≤ most - g
  less_room g h le = omega (arith, le)

  less_sum : (a g h : ℕ) → g ≤ h → a + h ≤ most → a + g ≤ most
  less_sum a g h le f = omega (arith, le, f)

  pub one_more : (a g h : ℕ) → g < h → a + h ≤ most → (most - h) + 1 ≤ most - g
  one_more a g h lt f = omega (arith, lt, f)

  pub roomy : (a g : ℕ) → a + g ≤ most → a ≤ most - g
  roomy a g f = omega (arith, f)

  -- with another stack, and less gas
  pub begins_again : (e : Surroundings) (V : List Val) (m : Tally) → Begins most e V m → (W : List Val) (i : Tally) → i.gas ≤ m.gas →
      StackWithin (most - i.gas) W → IssuedWithin (most - i.gas) i.issued → Begins most e W i
  begins_again e V m b W i le w s = record {
    charged = b.charged;
    room = less_sum byte_limit i.gas m.gas le b.room;
    environment = more_environment (most - m.gas) (most - i.gas) e.environment (less_room i.gas m.gas le) b.environment;
    contracts = λ hash c there. more_contract (most - m.gas) (most - i.gas) c (less_room i.gas m.gas le) (b.contracts hash c there);
    values = w;
    issued = s;
  }

  pub with_stack : (e : Surroundings) (V : List Val) (m : Tally) → Begins most e V m → (W : List Val) → StackWithin (most - m.gas) W →
      Begins most e W m
  with_stack e V m b W w = begins_again e V m b W m (same_gas m.gas) w b.issued

  pub weaker : (g h : ℕ) (o : Outcome) → g ≤ h → Ends most g o → Ends most h o
  weaker g h (stack A V m) le x = (rises m.gas g h x.0 le, x.1, x.2)
  weaker g h (failed f) le x = tt
  weaker g h stuck le x = tt

  -- runs with so much gas, and with less alone
  abbrev pub EndsWell : ℕ → Run → Type 0
  EndsWell g r = (e : Surroundings) (d : ℕ) (A : List Kind) (V : List Val) (m : Tally) → m.gas ≤ g → Begins most e V m →
      Ends most m.gas (r e d A V m)

  abbrev pub EndsBelow : ℕ → Run → Type 0
  EndsBelow g r = (e : Surroundings) (d : ℕ) (A : List Kind) (V : List Val) (m : Tally) → m.gas < g → Begins most e V m →
      Ends most m.gas (r e d A V m)

  pub run_less : (g h : ℕ) (r : Run) → h ≤ g → EndsWell g r → EndsWell h r
  run_less g h r le n e d A V m less b = n e d A V m (rises m.gas h g less le) b

  pub ends_after : (g : ℕ) (o : Outcome) (go : Go) → Ends most g o →
      ((B : List Kind) (W : List Val) (i : Tally) → i.gas ≤ g → StackWithin (most - i.gas) W → IssuedWithin (most - i.gas) i.issued →
      Ends most i.gas (go B W i)) →
      Ends most g (after o go)
  ends_after g (stack B W i) go x f = weaker i.gas g (go B W i) x.0 (f B W i x.0 x.1 x.2)
  ends_after g (failed y) go x f = tt
  ends_after g stuck go x f = tt

  pub ends_if : (b : Bool) (g : ℕ) (o : Outcome) → Ends most g o → Ends most g (only_if b o)
  ends_if true g o x = x
  ends_if false g o x = tt

  pub ends_ending : (g : ℕ) (o : Outcome) (C : List Kind) (go : Go) → Ends most g o →
      ((B : List Kind) (W : List Val) (i : Tally) → i.gas ≤ g → StackWithin (most - i.gas) W → IssuedWithin (most - i.gas) i.issued →
      Ends most i.gas (go B W i)) →
      Ends most g (ending o C go)
  ends_ending g o C go x f =
      ends_after g o (λ B W i. only_if (same_kinds B C) (go B W i)) x (λ B W i le w s. ends_if (same_kinds B C) i.gas (go B W i)
      (f B W i le w s))

  pub ends_unless : {A : Type 0} (g : ℕ) (o : Option A) (go : A → Outcome) → ((x : A) → o ≡ Some x → Ends most g (go x)) →
      Ends most g (unless_stuck o go)
  ends_unless g None go f = tt
  ends_unless g (Some x) go f = f x refl

  pub ends_found : {A : Type 0} (g : ℕ) (o : Found A) (go : A → Outcome) → ((x : A) → o ≡ found x → Ends most g (go x)) →
      Ends most g (on_found o go)
  ends_found g (found x) go f = f x refl
  ends_found g (fault l) go f = tt

  pub ends_goes : (g : ℕ) (t : Typing) (go : List Kind → Outcome) → ((B : List Kind) → Ends most g (go B)) → Ends most g (on_goes t go)
  ends_goes g (goes B) go f = f B
  ends_goes g fails go f = tt
  ends_goes g (bad l) go f = tt

  -- ---- gas

  less_by : (g c : ℕ) → 1 ≤ c → c ≤ g → g - c < g
  less_by g c one le = omega (arith, one, le)

  ends_gas : (b : Bool) (c : ℕ) (m : Tally) (go : Tally → Outcome) → 1 ≤ c → (b ≡ true → c ≤ m.gas) →
      ((gas : ℕ) → gas < m.gas → Ends most gas (go (record m { gas = gas }))) → Ends most m.gas (with_gas b c m go)
  ends_gas true c m go one le f =
      let lt = less_by m.gas c one (le refl) in
      weaker (m.gas - c) m.gas (go (record m { gas = m.gas - c })) (below (m.gas - c) m.gas lt) (f (m.gas - c) lt)
  ends_gas false c m go one le f = tt

  pub ends_charge : (e : Surroundings) (kind : Priced) (weight : ℕ) (V : List Val) (m : Tally) (go : Tally → Outcome) → Begins most e V m →
      ((gas : ℕ) → gas < m.gas → Begins most e V (record m { gas = gas }) → Ends most gas (go (record m { gas = gas }))) →
      Ends most m.gas (charge e.prices kind weight m go)
  ends_charge e kind weight V m go b f =
      ends_gas (nat_le (cost e.prices kind weight) m.gas) (cost e.prices kind weight) m go
      (cost_of_one (price_of e.prices kind).base ((price_of e.prices kind).coefficient * weight) (b.charged kind))
      (leb-true (cost e.prices kind weight) m.gas)
      (λ gas lt. f gas lt (begins_again e V m b V (record m { gas = gas }) (below gas m.gas lt)
      (more_stack (most - m.gas) (most - gas) V (less_room gas m.gas (below gas m.gas lt)) b.values)
      (more_issued (most - m.gas) (most - gas) m.issued (less_room gas m.gas (below gas m.gas lt)) b.issued)))

  pub ends_paid : (e : Surroundings) (kind : Priced) (V : List Val) (m : Tally) (go : Tally → Outcome) → Begins most e V m →
      ((gas : ℕ) → gas < m.gas → Begins most e V (record m { gas = gas }) → Ends most gas (go (record m { gas = gas }))) →
      Ends most m.gas (paid e kind m go)
  ends_paid e kind V m go b f = ends_charge e kind 0 V m go b f

  -- ---- blocks, steps and operations

  pub ends_block : (g : ℕ) (r : Run) → EndsWell g r → EndsWell g (block r)
  ends_block g r n e d A V m le b = by (nat_lt d block_limit)
    where
      by : (x : Bool) → Ends most m.gas (opened x r e d A V m)
      by true = n e (suc d) A V m le b
      by false = tt

  pub ends_finish : (s : Step) (B : List Kind) (m : Tally) → Keeps (most - m.gas) s → IssuedWithin (most - m.gas) m.issued →
      Ends most m.gas (finish s B m)
  ends_finish (done V changes) B m h i = (same_gas m.gas, h.0, i)
  ends_finish (step.fails f) B m h i = tt
  ends_finish wrong B m h i = tt

  pub ends_issue : (o : Operation) (m : Tally) (go : Val → Tally → Outcome) → OperationWithin (most - m.gas) o →
      IssuedWithin (most - m.gas) m.issued →
      ((n : ℕ) (i : Tally) → i.gas ≡ m.gas → IssuedWithin (most - m.gas) i.issued → Ends most m.gas (go (v.operation n) i)) →
      Ends most m.gas (issue o m go)
  ends_issue o m go h s f = by (nat_lt m.operations operation_limit)
    where
      by : (b : Bool) → Ends most m.gas (issued_where b o m go)
      by true = f m.operations (with_operation m o) refl
          (all_append (λ i. OperationWithin (most - m.gas) i.operation) m.issued
          (record { number = m.operations; operation = o } ∷ []) s (h, tt))
      by false = tt
