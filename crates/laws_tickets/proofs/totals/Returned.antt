-- Operations that a run returns, and those that it doesn't: together they are what it issued.
use Rattle.std.proofs.Common.{◌≡◌, ℕ, Bool, true, false, cond, List, [], ◌∷◌, Option, Some, None, refl, sym, ap, ◌∙◌, subst, arith}
use Rattle.std.specs.Prelude.{ℤ, ◌+ℤ◌, ◌==◌, ◌||◌, not}
use Rattle.std.specs.List.{find, AllByRecursion}
use Rattle.std.proofs.Math.IntN.{+ℤ_idl}
use Rattle.std.proofs.lemmas.Int.{ints}
use Rattle.std.proofs.lemmas.Bool.{eqb-true, eq-eqb}
use Rattle.rules_data.specs.values.Tickets.{Identity}
use Rattle.rules_code.specs.steps.Changes.{amount_among}
use Rattle.rules_code.specs.evaluation.Operations.{Issued, operation_tickets}
use Rattle.rules_world.specs.world.Runs.{stands_in, has_twice, with_issued, issued_with, unreturned}
use Rattle.laws_tickets.specs.totals.Totals.{amount_issued, issued_tickets, AreNumbered}
use Rattle.laws_data.proofs.amounts.ForCallers.{among_append}

-- an operation before others
pub issued_cons : (id : Identity) (i : Issued) (is : List Issued) →
    amount_issued id (i ∷ is) ≡ amount_among id (operation_tickets i.operation) +ℤ amount_issued id is
issued_cons id i is = among_append id (operation_tickets i.operation) (issued_tickets is)

-- ---- numbers

back : (m n : ℕ) → (m == n) ≡ false → (n == m) ≡ false
back m n e = by_test (n == m) refl
  where
    by_test : (b : Bool) → (n == m) ≡ b → b ≡ false
    by_test true f = let g : (m == n) ≡ true = eq-eqb m n (sym (eqb-true n m f)) in cc
    by_test false f = refl

-- each number is another than those behind it
abbrev Distinct : List Issued → Type 0
Distinct [] = Unit {0}
Distinct (i ∷ is) = AllByRecursion (λ j. (j.number == i.number) ≡ false) is × Distinct is

distinct : (is : List Issued) (count : ℕ) → AreNumbered is count → Distinct is
distinct [] count h = tt
distinct (i ∷ is) count h = (h.1, distinct is count h.2)

-- ---- one number more

either_false : (b c : Bool) → (b || c) ≡ false → (b ≡ false) × (c ≡ false)
either_false true c e = absurd cc
either_false false c e = (refl, e)

-- a number that none has leaves them as they are
absent : (n : ℕ) (ns : List ℕ) (all : List Issued) → AllByRecursion (λ j. (j.number == n) ≡ false) all →
    unreturned (n ∷ ns) all ≡ unreturned ns all
absent n ns [] h = refl
absent n ns (j ∷ all) h =
    ap (λ b. cond (not (b || stands_in j.number ns)) (j ∷ unreturned (n ∷ ns) all) (unreturned (n ∷ ns) all))
    (back j.number n h.0)
    ∙ ap (λ is. cond (not (stands_in j.number ns)) (j ∷ is) is) (absent n ns all h.1)

taken_sum : (i j x y : ℤ) → x ≡ i +ℤ y → j +ℤ x ≡ i +ℤ (j +ℤ y)
taken_sum i j x y e = omega (arith, ints)

-- the operation of a number that isn't among others, with those that are left without it
taken : (id : Identity) (n : ℕ) (ns : List ℕ) (all : List Issued) (i : Issued) → Distinct all → stands_in n ns ≡ false →
    find (λ j. j.number == n) all ≡ Some i →
    amount_issued id (unreturned ns all) ≡ amount_among id (operation_tickets i.operation) +ℤ amount_issued id
    (unreturned (n ∷ ns) all)
taken id n ns [] i d s e = absurd cc
taken id n ns (j ∷ all) i d s e = by_number (j.number == n) refl e (λ f. taken id n ns all i d.1 s f)
  where
    by_place : (b : Bool) → amount_issued id (unreturned ns all) ≡ amount_among id (operation_tickets i.operation) +ℤ amount_issued id (unreturned (n ∷ ns) all) →
        amount_issued id (cond (not b) (j ∷ unreturned ns all) (unreturned ns all)) ≡ amount_among id
        (operation_tickets i.operation) +ℤ amount_issued id (cond (not b) (j ∷ unreturned (n ∷ ns) all) (unreturned (n ∷ ns) all))
    by_place true later = later
    by_place false later =
        issued_cons id j (unreturned ns all)
        ∙ taken_sum (amount_among id (operation_tickets i.operation)) (amount_among id (operation_tickets j.operation))
        (amount_issued id (unreturned ns all)) (amount_issued id (unreturned (n ∷ ns) all)) later
        ∙ ap (λ z. amount_among id (operation_tickets i.operation) +ℤ z) (sym (issued_cons id j (unreturned (n ∷ ns) all)))

    by_number : (b : Bool) → (j.number == n) ≡ b → cond b (Some j) (find (λ j. j.number == n) all) ≡ Some i →
        (find (λ j. j.number == n) all ≡ Some i → amount_issued id (unreturned ns all) ≡ amount_among id
        (operation_tickets i.operation) +ℤ amount_issued id (unreturned (n ∷ ns) all)) →
        amount_issued id (cond (not (stands_in j.number ns)) (j ∷ unreturned ns all) (unreturned ns all))
        ≡ amount_among id (operation_tickets i.operation) +ℤ amount_issued id
        (cond (not ((n == j.number) || stands_in j.number ns)) (j ∷ unreturned (n ∷ ns) all) (unreturned (n ∷ ns) all))
    by_number true f g later =
        let same : j.number ≡ n = eqb-true j.number n f in
        let own : j ≡ i = cc in
        let others : AllByRecursion (λ k. (k.number == n) ≡ false) all = subst (λ m. AllByRecursion (λ k. (k.number == m) ≡ false) all) same d.0 in
        let free : stands_in j.number ns ≡ false = ap (λ m. stands_in m ns) same ∙ s in
        ap (λ b. amount_issued id (cond (not b) (j ∷ unreturned ns all) (unreturned ns all))) free
        ∙ issued_cons id j (unreturned ns all)
        ∙ ap (λ k. amount_among id (operation_tickets k.operation) +ℤ amount_issued id (unreturned ns all)) own
        ∙ ap (λ is. amount_among id (operation_tickets i.operation) +ℤ amount_issued id is) (sym (absent n ns all others))
        ∙ ap (λ b. amount_among id (operation_tickets i.operation) +ℤ amount_issued id
        (cond (not (b || stands_in j.number ns)) (j ∷ unreturned (n ∷ ns) all) (unreturned (n ∷ ns) all))) (sym
        (eq-eqb n j.number (sym same)))
    by_number false f g later =
        by_place (stands_in j.number ns) (later g)
        ∙ ap (λ b. amount_among id (operation_tickets i.operation) +ℤ amount_issued id
        (cond (not (b || stands_in j.number ns)) (j ∷ unreturned (n ∷ ns) all) (unreturned (n ∷ ns) all))) (sym
        (back j.number n f))

-- ---- all numbers

all_left : (all : List Issued) → unreturned [] all ≡ all
all_left [] = refl
all_left (j ∷ all) = ap (λ is. j ∷ is) (all_left all)

-- both are there
both_some : (i : Option Issued) (is : Option (List Issued)) (js : List Issued) → with_issued i is ≡ Some js →
    (j : Issued) × (ks : List Issued) × (i ≡ Some j) × (is ≡ Some ks) × (j ∷ ks ≡ js)
both_some (Some j) (Some ks) js e = let f : j ∷ ks ≡ js = cc in (j, ks, refl, refl, f)
both_some (Some j) None js e = absurd cc
both_some None is js e = absurd cc

returned_sum : (a r u i v : ℤ) → a ≡ r +ℤ u → u ≡ i +ℤ v → a ≡ i +ℤ r +ℤ v
returned_sum a r u i v e f = omega (arith, ints)

-- what is returned and what is not is what was issued
pub returned_amount : (id : Identity) (ns : List ℕ) (all is : List Issued) (count : ℕ) → AreNumbered all count →
    has_twice ns ≡ false → issued_with all ns ≡ Some is →
    amount_issued id all ≡ amount_issued id is +ℤ amount_issued id (unreturned ns all)
returned_amount id [] all is count h t e =
    let f : [] ≡ is = cc in
    ap (amount_issued id) (sym (all_left all)) ∙ sym (+ℤ_idl (amount_issued id (unreturned [] all))) ∙ ap
    (λ js. amount_issued id js +ℤ amount_issued id (unreturned [] all)) f
returned_amount id (n ∷ ns) all is count h t e =
    let p = both_some (find (λ i. i.number == n) all) (issued_with all ns) is e in
    let q = either_false (stands_in n ns) (has_twice ns) t in
    returned_sum (amount_issued id all) (amount_issued id p.1) (amount_issued id (unreturned ns all))
    (amount_among id (operation_tickets p.0.operation)) (amount_issued id (unreturned (n ∷ ns) all))
    (returned_amount id ns all p.1 count h q.1 p.3) (taken id n ns all p.0 (distinct all count h) q.0 p.2)
    ∙ ap (λ z. z +ℤ amount_issued id (unreturned (n ∷ ns) all)) (sym (issued_cons id p.0 p.1) ∙ ap (amount_issued id) p.4)
