-- Operations that are picked by their numbers out of those that were issued, and those that are left.
use Rattle.std.proofs.Common.{◌≡◌, ◌<◌, ℕ, Bool, true, false, cond, List, [], ◌∷◌, map, Some, None, refl, sym, ap, ◌∙◌, subst, ◌||◌, ◌==◌, ◌⊎◌, inl, inr, arith}
use Rattle.std.specs.Prelude.{not, filter, option_map, nat_lt}
use Rattle.std.specs.declared.option.Option.{Option}
use Rattle.std.specs.BTreeMap.{is_at}
use Rattle.std.specs.List.{AllByRecursion, find}
use Rattle.std.specs.Map.{lookup, remove_entry, values_of}
use Rattle.std.specs.Ordering.{nat_cmp, is_eq}
use Rattle.std.specs.declared.cmp.Ordering.TheVariants.{Less, Equal, Greater}
use Rattle.std.proofs.lemmas.Bool.{eqb-true, eqb-false, ltb-true}
use Rattle.rules_code.specs.evaluation.Operations as rules
use Rattle.rules_world.specs.world.Runs.{stands_in, has_twice, with_issued, issued_with, unreturned}
use Rattle.mich_ops.specs.declared.issued.Issued.{Issued}
use Rattle.mich_machine.specs.Returned.{number_of, AreRising, numbered, by_number, Pick, with_pick, picks}

-- ---- tests

no_same : (n k : ℕ) → n < k → (k == n) ≡ false
no_same n k h = by (k == n) refl
  where
    by : (b : Bool) → (k == n) ≡ b → b ≡ false
    by false e = refl
    by true e = let same : k ≡ n = eqb-true k n e in absurd (omega arith)

turned : (n k : ℕ) (b c : Bool) → (n == k) ≡ b → (k == n) ≡ c → b ≡ c
turned n k true true e f = refl
turned n k false false e f = refl
turned n k true false e f = absurd (eqb-false k n f (sym (eqb-true n k e)))
turned n k false true e f = absurd (eqb-false n k e (sym (eqb-true k n f)))

is_at_equal : (c : Bool) → is_eq (cond c Equal Greater) ≡ c
is_at_equal true = refl
is_at_equal false = refl

at_is : (n k : ℕ) → is_at (nat_cmp n) k ≡ (k == n)
at_is n k = by (nat_lt n k) refl
  where
    by : (b : Bool) → nat_lt n k ≡ b → is_eq (cond b Less (cond (n == k) Equal Greater)) ≡ (k == n)
    by true e = sym (no_same n k (ltb-true n k e))
    by false e = is_at_equal (n == k) ∙ turned n k (n == k) (k == n) refl refl

-- ---- operations in a list

abbrev find_of : ℕ → List Issued → Option Issued
find_of n [] = None
find_of n (x ∷ xs) = cond (number_of x == n) (Some x) (find_of n xs)

abbrev without : ℕ → List Issued → List Issued
without n [] = []
without n (x ∷ xs) = cond (number_of x == n) xs (x ∷ without n xs)

lookup_is : (n : ℕ) (xs : List Issued) → lookup (is_at (nat_cmp n)) (by_number xs) ≡ find_of n xs
lookup_is n [] = refl
lookup_is n (x ∷ xs) = (λ i. cond (at_is n (number_of x) i) (Some x) (lookup_is n xs i))

pulled : (b : Bool) (x : Issued) (xs ys : List Issued) → cond b (by_number xs) (numbered x ∷ by_number ys) ≡ by_number (cond b xs (x ∷ ys))
pulled true x xs ys = refl
pulled false x xs ys = refl

remove_is : (n : ℕ) (xs : List Issued) → remove_entry (is_at (nat_cmp n)) (by_number xs) ≡ by_number (without n xs)
remove_is n [] = refl
remove_is n (x ∷ xs) =
    (λ i. cond (at_is n (number_of x) i) (by_number xs) (numbered x ∷ remove_is n xs i)) ∙ pulled (number_of x == n) x xs (without n xs)

pub values_are : (xs : List Issued) → values_of (by_number xs) ≡ xs
values_are [] = refl
values_are (x ∷ xs) = ap (λ ys. x ∷ ys) (values_are xs)

above_kept : (k n : ℕ) (xs : List Issued) → AllByRecursion (λ y. k < number_of y) xs → AllByRecursion (λ y. k < number_of y) (without n xs)
above_kept k n [] h = tt
above_kept k n (x ∷ xs) h = by (number_of x == n) (above_kept k n xs h.1)
  where
    by : (b : Bool) → AllByRecursion (λ y. k < number_of y) (without n xs) → AllByRecursion (λ y. k < number_of y) (cond b xs (x ∷ without n xs))
    by true later = h.1
    by false later = (h.0, later)

without_rising : (n : ℕ) (xs : List Issued) → AreRising xs → AreRising (without n xs)
without_rising n [] h = tt
without_rising n (x ∷ xs) h = by (number_of x == n) (without_rising n xs h.1)
  where
    by : (b : Bool) → AreRising (without n xs) → AreRising (cond b xs (x ∷ without n xs))
    by true later = h.1
    by false later = (above_kept (number_of x) n xs h.0, later)

-- a number below all others isn't among them
below_all : (n : ℕ) (xs : List Issued) → AllByRecursion (λ y. n < number_of y) xs → find_of n xs ≡ None
below_all n [] h = refl
below_all n (x ∷ xs) h = ap (λ b. cond b (Some x) (find_of n xs)) (no_same n (number_of x) h.0) ∙ below_all n xs h.1

gone : (n : ℕ) (xs : List Issued) → AreRising xs → find_of n (without n xs) ≡ None
gone n [] h = refl
gone n (x ∷ xs) h = by (number_of x == n) refl (gone n xs h.1)
  where
    by : (b : Bool) → (number_of x == n) ≡ b → find_of n (without n xs) ≡ None → find_of n (cond b xs (x ∷ without n xs)) ≡ None
    by true e later = below_all n xs (subst (λ k. AllByRecursion (λ y. k < number_of y) xs) (eqb-true (number_of x) n e) h.0)
    by false e later = ap (λ b. cond b (Some x) (find_of n (without n xs))) e ∙ later

other : (m n : ℕ) (xs : List Issued) → (n == m) ≡ false → find_of m (without n xs) ≡ find_of m xs
other m n [] h = refl
other m n (x ∷ xs) h = by (number_of x == n) refl (other m n xs h)
  where
    by : (b : Bool) → (number_of x == n) ≡ b → find_of m (without n xs) ≡ find_of m xs → find_of m (cond b xs (x ∷ without n xs)) ≡ cond (number_of x == m) (Some x) (find_of m xs)
    by true e later =
        let same : (number_of x == m) ≡ false = ap (λ k. k == m) (eqb-true (number_of x) n e) ∙ h in
        sym (ap (λ b. cond b (Some x) (find_of m xs)) same)
    by false e later = ap (cond (number_of x == m) (Some x)) later

-- ---- what is left

abbrev pub is_left : List ℕ → Issued → Bool
is_left ns x = not (stands_in (number_of x) ns)

left_above : (n : ℕ) (ns : List ℕ) (xs : List Issued) → AllByRecursion (λ y. n < number_of y) xs → filter (is_left (n ∷ ns)) xs ≡ filter (is_left ns) xs
left_above n ns [] h = refl
left_above n ns (x ∷ xs) h =
    let e : (n == number_of x) ≡ false = turned n (number_of x) (n == number_of x) (number_of x == n) refl refl ∙ no_same n (number_of x) h.0 in
    (λ i. cond (not (e i || stands_in (number_of x) ns)) (x ∷ left_above n ns xs h.1 i) (left_above n ns xs h.1 i))

left_is : (n : ℕ) (ns : List ℕ) (xs : List Issued) → AreRising xs → filter (is_left (n ∷ ns)) xs ≡ filter (is_left ns) (without n xs)
left_is n ns [] h = refl
left_is n ns (x ∷ xs) h = by (number_of x == n) refl (left_is n ns xs h.1)
  where
    same : (n == number_of x) ≡ (number_of x == n)
    same = turned n (number_of x) (n == number_of x) (number_of x == n) refl refl

    by : (b : Bool) → (number_of x == n) ≡ b → filter (is_left (n ∷ ns)) xs ≡ filter (is_left ns) (without n xs) → filter (is_left (n ∷ ns)) (x ∷ xs) ≡ filter (is_left ns) (cond b xs (x ∷ without n xs))
    by true e later =
        ap (λ b. cond (not (b || stands_in (number_of x) ns)) (x ∷ filter (is_left (n ∷ ns)) xs) (filter (is_left (n ∷ ns)) xs)) (same ∙ e)
        ∙ left_above n ns xs (subst (λ k. AllByRecursion (λ y. k < number_of y) xs) (eqb-true (number_of x) n e) h.0)
    by false e later =
        (λ i. cond (not ((same ∙ e) i || stands_in (number_of x) ns)) (x ∷ later i) (later i))

-- ---- picks

module _ (f : Issued → rules.Issued) (same : (x : Issued) → (f x).number ≡ number_of x) where
  found_is : (n : ℕ) (xs : List Issued) → find (λ i. i.number == n) (map f xs) ≡ option_map f (find_of n xs)
  found_is n [] = refl
  found_is n (x ∷ xs) = (λ i. cond (same x i == n) (Some (f x)) (found_is n xs i)) ∙ by (number_of x == n)
    where
      by : (b : Bool) → cond b (Some (f x)) (option_map f (find_of n xs)) ≡ option_map f (cond b (Some x) (find_of n xs))
      by true = refl
      by false = refl

  pub unreturned_is : (ns : List ℕ) (xs : List Issued) → unreturned ns (map f xs) ≡ map f (filter (is_left ns) xs)
  unreturned_is ns [] = refl
  unreturned_is ns (x ∷ xs) = (λ i. cond (not (stands_in (same x i) ns)) (f x ∷ unreturned_is ns xs i) (unreturned_is ns xs i)) ∙ by (is_left ns x)
    where
      by : (b : Bool) → cond b (f x ∷ map f (filter (is_left ns) xs)) (map f (filter (is_left ns) xs)) ≡ map f (cond b (x ∷ filter (is_left ns) xs) (filter (is_left ns) xs))
      by true = refl
      by false = refl

  -- a number that isn't there has no operation
  not_there : (n : ℕ) (ns : List ℕ) (xs : List Issued) (is : List rules.Issued) → find_of n xs ≡ None → issued_with (map f xs) ns ≡ Some is → stands_in n ns ≡ false
  not_there n [] xs is none h = refl
  not_there n (m ∷ ns) xs is none h = by (m == n) refl (find (λ i. i.number == m) (map f xs)) refl (issued_with (map f xs) ns) refl h (λ js k. not_there n ns xs js none k)
    where
      by : (b : Bool) → (m == n) ≡ b → (o : Option rules.Issued) → find (λ i. i.number == m) (map f xs) ≡ o → (os : Option (List rules.Issued)) → issued_with (map f xs) ns ≡ os →
          with_issued o os ≡ Some is → ((js : List rules.Issued) → issued_with (map f xs) ns ≡ Some js → stands_in n ns ≡ false) → (b || stands_in n ns) ≡ false
      by true e (Some x) g os k w later =
          let nothing : find (λ i. i.number == m) (map f xs) ≡ None = found_is m xs ∙ ap (option_map f) (ap (λ k. find_of k xs) (eqb-true m n e) ∙ none) in cc
      by true e None g os k w later = absurd cc
      by false e (Some x) g (Some js) k w later = later js k
      by false e (Some x) g None k w later = absurd cc
      by false e None g os k w later = absurd cc

  issued_other : (n : ℕ) (ns : List ℕ) (xs : List Issued) → stands_in n ns ≡ false → issued_with (map f (without n xs)) ns ≡ issued_with (map f xs) ns
  issued_other n [] xs h = refl
  issued_other n (m ∷ ns) xs h = by (m == n) refl h (λ g. issued_other n ns xs g)
    where
      by : (b : Bool) → (m == n) ≡ b → (b || stands_in n ns) ≡ false → (stands_in n ns ≡ false → issued_with (map f (without n xs)) ns ≡ issued_with (map f xs) ns) → issued_with (map f (without n xs)) (m ∷ ns) ≡ issued_with (map f xs) (m ∷ ns)
      by true e g later = absurd cc
      by false e g later =
          let apart : (n == m) ≡ false = turned n m (n == m) (m == n) refl refl ∙ e in
          let one : find (λ i. i.number == m) (map f (without n xs)) ≡ find (λ i. i.number == m) (map f xs) =
          found_is m (without n xs) ∙ ap (option_map f) (other m n xs apart) ∙ sym (found_is m xs) in
          (λ i. with_issued (one i) (later g i))

  pub record IsPick (xs : List Issued) (ns : List ℕ) (p : Pick) : Type 0 where
    pub once : has_twice ns ≡ false
    pub returned : issued_with (map f xs) ns ≡ Some (map f p.picked)
    pub left : p.left ≡ by_number (filter (is_left ns) xs)

  -- where nothing is picked a number stands there twice, or has no operation
  abbrev pub Picked : List Issued → List ℕ → Option Pick → Type 0
  Picked xs ns (Some p) = IsPick xs ns p
  Picked xs ns None = (has_twice ns ≡ true) ⊎ (issued_with (map f xs) ns ≡ None)

  all_left : (xs : List Issued) → filter (is_left []) xs ≡ xs
  all_left [] = refl
  all_left (x ∷ xs) = ap (λ ys. x ∷ ys) (all_left xs)

  module _ (n : ℕ) (ns : List ℕ) (xs : List Issued) (rising : AreRising xs) where
    missing : find_of n xs ≡ None → Picked xs (n ∷ ns) None
    missing e = inr (ap (λ o. with_issued o (issued_with (map f xs) ns)) (found_is n xs ∙ ap (option_map f) e))

    one_more : (x : Issued) (p : Pick) → find_of n xs ≡ Some x → IsPick (without n xs) ns p → IsPick xs (n ∷ ns) (record { picked = x ∷ p.picked; left = p.left })
    one_more x p e h =
        let once : stands_in n ns ≡ false = not_there n ns (without n xs) _ (gone n xs rising) h.returned in
        record {
          once = (λ i. once i || h.once i);
          returned = (λ i. with_issued ((found_is n xs ∙ ap (option_map f) e) i) ((sym (issued_other n ns xs once) ∙ h.returned) i));
          left = h.left ∙ ap by_number (sym (left_is n ns xs rising));
        }

    none_left : (x : Issued) → find_of n xs ≡ Some x → Picked (without n xs) ns None → Picked xs (n ∷ ns) None
    none_left x e (inl twice) = inl (by (stands_in n ns))
      where
        by : (b : Bool) → (b || has_twice ns) ≡ true
        by true = refl
        by false = twice
    none_left x e (inr none) = by (stands_in n ns) refl
      where
        by : (b : Bool) → stands_in n ns ≡ b → Picked xs (n ∷ ns) None
        by true s = inl (ap (λ b. b || has_twice ns) s)
        by false s = inr ((λ i. with_issued ((found_is n xs ∙ ap (option_map f) e) i) ((sym (issued_other n ns xs s) ∙ none) i)))

  pub picks_are : (ns : List ℕ) (xs : List Issued) → AreRising xs → Picked xs ns (picks (by_number xs) ns)
  picks_are [] xs rising = record { once = refl; returned = refl; left = ap by_number (sym (all_left xs)) }
  picks_are (n ∷ ns) xs rising =
      subst (Picked xs (n ∷ ns)) (λ i. with_pick (sym (lookup_is n xs) i) (picks (sym (remove_is n xs) i) ns))
      (by (find_of n xs) refl (picks (by_number (without n xs)) ns) (picks_are ns (without n xs) (without_rising n xs rising)))
    where
      by : (o : Option Issued) → find_of n xs ≡ o → (q : Option Pick) → Picked (without n xs) ns q → Picked xs (n ∷ ns) (with_pick o q)
      by (Some x) e (Some p) h = one_more n ns xs rising x p e h
      by (Some x) e None h = none_left n ns xs rising x e h
      by None e q h = missing n ns xs rising e

-- ---- what is so of all is so of those that are picked

found_all : (P : Issued → Type 0) (n : ℕ) (xs : List Issued) (x : Issued) → AllByRecursion P xs → find_of n xs ≡ Some x → P x
found_all P n [] x h e = absurd cc
found_all P n (y ∷ ys) x h e = by (number_of y == n) e (λ g. found_all P n ys x h.1 g)
  where
    by : (b : Bool) → cond b (Some y) (find_of n ys) ≡ Some x → (find_of n ys ≡ Some x → P x) → P x
    by true g later = let one : y ≡ x = cc in subst P one h.0
    by false g later = later g

without_all : (P : Issued → Type 0) (n : ℕ) (xs : List Issued) → AllByRecursion P xs → AllByRecursion P (without n xs)
without_all P n [] h = tt
without_all P n (y ∷ ys) h = by (number_of y == n) (without_all P n ys h.1)
  where
    by : (b : Bool) → AllByRecursion P (without n ys) → AllByRecursion P (cond b ys (y ∷ without n ys))
    by true later = h.1
    by false later = (h.0, later)

pub picked_all : (P : Issued → Type 0) (ns : List ℕ) (xs : List Issued) (p : Pick) → AllByRecursion P xs → picks (by_number xs) ns ≡ Some p → AllByRecursion P p.picked
picked_all P [] xs p h e = let none : p.picked ≡ [] = cc in subst (AllByRecursion P) (sym none) tt
picked_all P (n ∷ ns) xs p h e =
    by (find_of n xs) refl (picks (by_number (without n xs)) ns) refl ((λ i. with_pick (sym (lookup_is n xs) i) (picks (sym (remove_is n xs) i) ns)) ∙ e)
    (λ r k. picked_all P ns (without n xs) r (without_all P n xs h) k)
  where
    by : (o : Option Issued) → find_of n xs ≡ o → (q : Option Pick) → picks (by_number (without n xs)) ns ≡ q → with_pick o q ≡ Some p →
        ((r : Pick) → picks (by_number (without n xs)) ns ≡ Some r → AllByRecursion P r.picked) → AllByRecursion P p.picked
    by (Some x) g (Some r) k w later =
        let is : p.picked ≡ x ∷ r.picked = cc in
        subst (AllByRecursion P) (sym is) (found_all P n xs x h g, later r k)
    by (Some x) g None k w later = absurd cc
    by None g q k w later = absurd cc
