-- Outcomes that keep what there is, and how they are put together.
use Rattle.std.proofs.Common.{◌≡◌, ℕ, suc, ◌-◌, ◌<◌, ◌≤◌, Bool, true, false, List, [], ◌∷◌, ◌++◌, Option, Some, None, refl, ap, ◌∙◌, arith}
use Rattle.std.specs.Prelude.{ℤ, ◌+ℤ◌, ◌-ℤ◌, ◌==◌, nat_lt, nat_le}
use Rattle.std.specs.List.{flat_map, AllByRecursion}
use Rattle.std.proofs.Math.IntN.{+ℤ_idr}
use Rattle.std.proofs.lemmas.Int.{ints}
use Rattle.std.proofs.lemmas.Grind.{flat_map-append}
use Rattle.std.proofs.lemmas.Bool.Decides.{nat_tests}
use Rattle.rules_text.specs.nodes.Limits.{block_limit, operation_limit}
use Rattle.rules_data.specs.declared.gas.Kind.{Kind as Priced}
use Rattle.rules_data.specs.gas.Prices.{Listed, cost}
use Rattle.rules_data.specs.types.Kind.{Kind}
use Rattle.rules_data.specs.types.Kind as k
use Rattle.rules_data.specs.values.Val.{Val}
use Rattle.rules_data.specs.values.Val as v
use Rattle.rules_data.specs.values.Tickets.{Identity, tickets}
use Rattle.rules_code.specs.instructions.Same.{same_kinds}
use Rattle.rules_code.specs.instructions.Arguments.{Found, found, fault}
use Rattle.rules_code.specs.typing.Typing.{Typing, goes, fails, bad}
use Rattle.rules_code.specs.steps.Changes.{amount_among, minted_in, burnt_in}
use Rattle.rules_code.specs.steps.Step.{Step, done, fails as failing, wrong}
use Rattle.rules_code.specs.evaluation.Surroundings.{Surroundings}
use Rattle.rules_code.specs.evaluation.Operations.{Operation, Issued, Tally, operation_tickets}
use Rattle.rules_code.specs.evaluation.Outcome.{Outcome, stack, failed, stuck, Go, Run, after, unless_stuck, only_if, with_gas, charge, opened, block, finish}
use Rattle.rules_code.specs.evaluation.Branches.{paid}
use Rattle.rules_code.specs.evaluation.Loops.{ending}
use Rattle.rules_code.specs.evaluation.Issuing.{with_operation, issued_where, issue}
use Rattle.rules_code.specs.evaluation.Given.{on_found, on_goes}
use Rattle.laws_tickets.specs.totals.Agreement.{AllAgree, SeesAgreement}
use Rattle.laws_tickets.specs.totals.Totals.{amount_on, amount_issued, issued_tickets, total, AreNumbered}
use Rattle.laws_data.proofs.amounts.ForCallers.{among_append}
use Rattle.laws_tickets.proofs.totals.ForCallers.{balanced_total, same_kinds_true, KeepsStep}

-- how much there is of each identity, which operations were issued, and how many operations there are at least
pub record Aim : Type 0 where
  pub least : ℕ
  pub issued : List Issued
  pub amounts : Identity → ℤ

-- a stack that agrees with its types, where there is as much of each identity as is aimed at
pub record Stands (p : Aim) (A : List Kind) (V : List Val) (m : Tally) : Type 0 where
  pub agree : AllAgree A V
  pub same : (id : Identity) → total id V m ≡ p.amounts id
  pub numbers : AreNumbered p.issued p.least → AreNumbered m.issued m.operations
  pub many : p.least ≤ m.operations

abbrev pub Keeps : Aim → Outcome → Type 0
Keeps p (stack A V m) = Stands p A V m
Keeps p (failed f) = Unit {0}
Keeps p stuck = Unit {0}

abbrev pub KeepsRun : Run → Type 0
KeepsRun r =
    (e : Surroundings) (d : ℕ) (A : List Kind) (V : List Val) (m : Tally) (p : Aim) → SeesAgreement e → Stands p A V m → Keeps p
    (r e d A V m)

-- the same amounts on another stack
pub restands : {p : Aim} {A : List Kind} {V : List Val} {m : Tally} (B : List Kind) (W : List Val) → AllAgree B W →
    flat_map tickets W ≡ flat_map tickets V → Stands p A V m → Stands p B W m
restands {m = m} B W a e s = record {
  agree = a;
  same = λ id. ap (λ ts. amount_among id ts +ℤ (amount_issued id m.issued +ℤ burnt_in id m.changes -ℤ minted_in id m.changes)) e
      ∙ s.same id;
  numbers = s.numbers;
  many = s.many;
}

-- aimed at what there is
abbrev pub here : List Val → Tally → Aim
here V m = record { least = m.operations; issued = m.issued; amounts = λ id. total id V m }

pub stands_here : (A : List Kind) (V : List Val) (m : Tally) → AllAgree A V → Stands (here V m) A V m
stands_here A V m a = record { agree = a; same = λ id. refl; numbers = λ h. h; many = omega arith }

-- what comes after, on the stack that there is
pub keeps_after : (p q : Aim) (o : Outcome) (go : Go) → Keeps p o →
    ((A : List Kind) (V : List Val) (m : Tally) → Stands p A V m → Keeps q (go A V m)) → Keeps q (after o go)
keeps_after p q (stack A V m) go s h = h A V m s
keeps_after p q (failed f) go s h = tt
keeps_after p q stuck go s h = tt

pub keeps_only_if : (p : Aim) (b : Bool) (o : Outcome) → (b ≡ true → Keeps p o) → Keeps p (only_if b o)
keeps_only_if p true o h = h refl
keeps_only_if p false o h = tt

pub keeps_ending : (p q : Aim) (o : Outcome) (B : List Kind) (go : Go) → Keeps p o →
    ((C : List Kind) (V : List Val) (m : Tally) → C ≡ B → Stands p C V m → Keeps q (go C V m)) → Keeps q (ending o B go)
keeps_ending p q o B go s h =
    keeps_after p q o (λ C V m. only_if (same_kinds C B) (go C V m)) s
    (λ C V m g. keeps_only_if q (same_kinds C B) (go C V m) (λ e. h C V m (same_kinds_true C B e) g))

pub keeps_unless : {A : Type 0} (p : Aim) (o : Option A) (go : A → Outcome) → ((x : A) → o ≡ Some x → Keeps p (go x)) →
    Keeps p (unless_stuck o go)
keeps_unless p None go h = tt
keeps_unless p (Some x) go h = h x refl

pub keeps_found : {A : Type 0} (p : Aim) (o : Found A) (go : A → Outcome) → ((x : A) → o ≡ found x → Keeps p (go x)) →
    Keeps p (on_found o go)
keeps_found p (found x) go h = h x refl
keeps_found p (fault n) go h = tt

-- the types that a typing gives have P
abbrev pub AllGoes : (List Kind → Type 0) → Typing → Type 0
AllGoes P (goes B) = P B
AllGoes P fails = Unit {0}
AllGoes P (bad l) = Unit {0}

pub keeps_goes : (p : Aim) (P : List Kind → Type 0) (u : Typing) (go : List Kind → Outcome) → AllGoes P u →
    ((B : List Kind) → P B → Keeps p (go B)) → Keeps p (on_goes u go)
keeps_goes p P (goes B) go g h = h B g
keeps_goes p P fails go g h = tt
keeps_goes p P (bad n) go g h = tt

-- ---- gas and blocks

keeps_with_gas : (p q : Aim) (A : List Kind) (V : List Val) (b : Bool) (c : ℕ) (m : Tally) (go : Tally → Outcome) →
    Stands p A V m → ((n : Tally) → Stands p A V n → Keeps q (go n)) → Keeps q (with_gas b c m go)
keeps_with_gas p q A V true c m go s h =
    h (record m { gas = m.gas - c }) (record { agree = s.agree; same = s.same; numbers = s.numbers; many = s.many })
keeps_with_gas p q A V false c m go s h = tt

pub keeps_charge : (p q : Aim) (A : List Kind) (V : List Val) (prices : Listed) (kind : Priced) (weight : ℕ) (m : Tally)
    (go : Tally → Outcome) → Stands p A V m →
    ((n : Tally) → Stands p A V n → Keeps q (go n)) → Keeps q (charge prices kind weight m go)
keeps_charge p q A V prices kind weight m go s h =
    keeps_with_gas p q A V (nat_le (cost prices kind weight) m.gas) (cost prices kind weight) m go s h

pub keeps_paid : (p q : Aim) (A : List Kind) (V : List Val) (e : Surroundings) (kind : Priced) (m : Tally)
    (go : Tally → Outcome) → Stands p A V m → ((n : Tally) → Stands p A V n → Keeps q (go n)) → Keeps q (paid e kind m go)
keeps_paid p q A V e kind m go s h = keeps_charge p q A V e.prices kind 0 m go s h

keeps_opened : (b : Bool) (r : Run) → KeepsRun r → KeepsRun (opened b r)
keeps_opened true r h e d A V m p g s = h e (suc d) A V m p g s
keeps_opened false r h e d A V m p g s = tt

pub keeps_block : (r : Run) → KeepsRun r → KeepsRun (block r)
keeps_block r h e d A V m p g s = keeps_opened (nat_lt d block_limit) r h e d A V m p g s

-- ---- steps

pub keeps_finish : (p : Aim) (A : List Kind) (V : List Val) (x : Step) (B : List Kind) (m : Tally) → KeepsStep B V x →
    Stands p A V m → Keeps p (finish x B m)
keeps_finish p A V (done W changes) B m h s = record {
  agree = h.0;
  same = λ id. balanced_total id V W m changes h.1 ∙ s.same id;
  numbers = s.numbers;
  many = s.many;
}
keeps_finish p A V (failing f) B m h s = tt
keeps_finish p A V wrong B m h s = tt

-- ---- operations

module _ (o : Operation) where
  others_too : (n count : ℕ) (is : List Issued) → n < count → AllByRecursion (λ j. (j.number == n) ≡ false) is →
      AllByRecursion (λ j. (j.number == n) ≡ false) (is ++ record { number = count; operation = o } ∷ [])
  others_too n count [] h a = (grind (arith, nat_tests), tt)
  others_too n count (i ∷ is) h a = (a.0, others_too n count is h a.1)

  numbered_too : (count : ℕ) (is : List Issued) → AreNumbered is count →
      AreNumbered (is ++ record { number = count; operation = o } ∷ []) (suc count)
  numbered_too count [] a = (omega arith, tt, tt)
  numbered_too count (i ∷ is) a = (omega (arith, a.0), others_too i.number count is a.0 a.1, numbered_too count is a.2)

pub numbered_more : (count more : ℕ) (is : List Issued) → count ≤ more → AreNumbered is count → AreNumbered is more
numbered_more count more [] h a = tt
numbered_more count more (i ∷ is) h a = (omega (arith, a.0), a.1, numbered_more count more is h a.2)

issued_sum : (v w o i b m : ℤ) → v ≡ o +ℤ w → w +ℤ (i +ℤ o +ℤ b -ℤ m) ≡ v +ℤ (i +ℤ b -ℤ m)
issued_sum v w o i b m e = omega (arith, ints)

issued_amount : (id : Identity) (is : List Issued) (i : Issued) →
    amount_issued id (is ++ i ∷ []) ≡ amount_issued id is +ℤ amount_among id (operation_tickets i.operation)
issued_amount id is i =
    ap (amount_among id) (flat_map-append (λ j. operation_tickets j.operation) is (i ∷ []))
    ∙ among_append id (issued_tickets is) (operation_tickets i.operation ++ [])
    ∙ ap (λ z. amount_issued id is +ℤ z) (among_append id (operation_tickets i.operation) [] ∙ +ℤ_idr
    (amount_among id (operation_tickets i.operation)))

-- what an operation has with it leaves the stack
abbrev pub Hands : Operation → List Val → List Val → Type 0
Hands o V W = (id : Identity) → amount_on id V ≡ amount_among id (operation_tickets o) +ℤ amount_on id W

keeps_issued : (p : Aim) (A : List Kind) (V : List Val) (b : Bool) (o : Operation) (B : List Kind) (W : List Val) (m : Tally)
    (go : Val → Tally → Outcome) → Stands p A V m → AllAgree B W → Hands o V W →
    ((n : ℕ) (j : Tally) → Stands p (k.operation ∷ B) (v.operation n ∷ W) j → Keeps p (go (v.operation n) j)) → Keeps p
    (issued_where b o m go)
keeps_issued p A V true o B W m go s a f h = h m.operations (with_operation m o) (record {
  agree = (tt, a);
  same = λ id.
      ap (λ z. amount_on id W +ℤ (z +ℤ burnt_in id m.changes -ℤ minted_in id m.changes))
      (issued_amount id m.issued (record { number = m.operations; operation = o }))
      ∙ issued_sum (amount_on id V) (amount_on id W) (amount_among id (operation_tickets o)) (amount_issued id m.issued)
      (burnt_in id m.changes) (minted_in id m.changes) (f id)
      ∙ s.same id;
  numbers = λ n. numbered_too o m.operations m.issued (s.numbers n);
  many = omega (arith, s.many);
})
keeps_issued p A V false o B W m go s a f h = tt

pub keeps_issue : (p : Aim) (A : List Kind) (V : List Val) (o : Operation) (B : List Kind) (W : List Val) (m : Tally)
    (go : Val → Tally → Outcome) → Stands p A V m → AllAgree B W → Hands o V W →
    ((n : ℕ) (j : Tally) → Stands p (k.operation ∷ B) (v.operation n ∷ W) j → Keeps p (go (v.operation n) j)) → Keeps p
    (issue o m go)
keeps_issue p A V o B W m go s a f h = keeps_issued p A V (nat_lt m.operations operation_limit) o B W m go s a f h
