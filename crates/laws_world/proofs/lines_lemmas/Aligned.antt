-- Positive amounts by key, in the order of keys: lists that tell the same of each key agree, place by place.
use Rattle.std.proofs.Common.{◌≡◌, false, cond, List, [], ◌∷◌, Some, refl, sym, ap, ◌∙◌, arith}
use Rattle.std.specs.Prelude.{ℤ, pos, ◌<ℤ◌, unwrap_or}
use Rattle.std.specs.declared.cmp.Ordering.{Ordering}
use Rattle.std.specs.declared.cmp.Ordering.TheVariants.{Less, Equal, Greater}
use Rattle.std.specs.Ordering.{is_eq, ordering_reverse}
use Rattle.std.specs.Cmp.{IsTotalOrder}
use Rattle.std.specs.BTreeMap.{is_at}
use Rattle.std.specs.Map.{lookup, keys_of}
use Rattle.std.specs.List.{AllByRecursion}
use Rattle.std.specs.List.Sorted.{IsStrictlySortedBy}
use Rattle.std.proofs.lemmas.Cmp.{tied_itself}
use Rattle.std.proofs.lemmas.Int.{ints}

abbrev pub amount_in : {K : Type 0} → (K → K → Ordering) → K → List (K × ℤ) → ℤ
amount_in c k es = unwrap_or (lookup (is_at (c k)) es) (pos 0)

-- pairs of one key in the order, and of one amount
abbrev pub AreAlike : {K : Type 0} → (K → K → Ordering) → List (K × ℤ) → List (K × ℤ) → Type 0
AreAlike c [] [] = Unit {0}
AreAlike c (x ∷ xs) (y ∷ ys) = (c x.0 y.0 ≡ Equal) × (x.1 ≡ y.1) × AreAlike c xs ys
AreAlike c _ _ = ⊥

-- the head is below all others
head_below : {K : Type 0} (c : K → K → Ordering) (k : K) (ks : List K) → IsStrictlySortedBy c (k ∷ ks) → AllByRecursion (λ y. c k y ≡ Less) ks
unfolding IsStrictlySortedBy
head_below c k ks h = h.0

tail_sorted : {K : Type 0} (c : K → K → Ordering) (k : K) (ks : List K) → IsStrictlySortedBy c (k ∷ ks) → IsStrictlySortedBy c ks
unfolding IsStrictlySortedBy
tail_sorted c k ks h = h.1

-- nothing is told of what is below all keys
nothing_below : {K : Type 0} (c : K → K → Ordering) (k : K) (es : List (K × ℤ)) → AllByRecursion (λ y. c k y ≡ Less) (keys_of es) → amount_in c k es ≡ pos 0
nothing_below c k [] h = refl
nothing_below c k (e ∷ es) h =
    ap (λ r. unwrap_or (cond (is_eq r) (Some e.1) (lookup (is_at (c k)) es)) (pos 0)) h.0 ∙ nothing_below c k es h.1

-- what is below one that is below all is below all
below_all : {K : Type 0} (c : K → K → Ordering) → IsTotalOrder c → (k x : K) (ks : List K) → c k x ≡ Less → AllByRecursion (λ y. c x y ≡ Less) ks → AllByRecursion (λ y. c k y ≡ Less) ks
below_all c o k x [] l h = tt
below_all c o k x (y ∷ ys) l h = (o.trans k x y l h.0, below_all c o k x ys l h.1)

-- what is level with one that is below all is below all
level_all : {K : Type 0} (c : K → K → Ordering) → IsTotalOrder c → (k x : K) (ks : List K) → c k x ≡ Equal → AllByRecursion (λ y. c x y ≡ Less) ks → AllByRecursion (λ y. c k y ≡ Less) ks
level_all c o k x [] l h = tt
level_all c o k x (y ∷ ys) l h = (o.congr k x y l ∙ h.0, level_all c o k x ys l h.1)

-- the head's own amount
own_amount : {K : Type 0} (c : K → K → Ordering) (k : K) (e : K × ℤ) (es : List (K × ℤ)) → c k e.0 ≡ Equal → amount_in c k (e ∷ es) ≡ e.1
own_amount c k e es h = ap (λ r. unwrap_or (cond (is_eq r) (Some e.1) (lookup (is_at (c k)) es)) (pos 0)) h

-- another's amount is in the tail
other_amount : {K : Type 0} (c : K → K → Ordering) (k : K) (e : K × ℤ) (es : List (K × ℤ)) → is_eq (c k e.0) ≡ false → amount_in c k (e ∷ es) ≡ amount_in c k es
other_amount c k e es h = ap (λ b. unwrap_or (cond b (Some e.1) (lookup (is_at (c k)) es)) (pos 0)) h

positive : (n : ℤ) → pos 0 <ℤ n → n ≡ pos 0 → ⊥
positive n h e = omega (arith, ints)

-- an order that isn't level tells of the tails alone
tails : {K : Type 0} (c : K → K → Ordering) → IsTotalOrder c → (x y : K × ℤ) (xs ys : List (K × ℤ)) → c x.0 y.0 ≡ Equal
    → AllByRecursion (λ z. c x.0 z ≡ Less) (keys_of xs) → AllByRecursion (λ z. c y.0 z ≡ Less) (keys_of ys)
    → ((k : K) → amount_in c k (x ∷ xs) ≡ amount_in c k (y ∷ ys)) → (k : K) → amount_in c k xs ≡ amount_in c k ys
tails c o x y xs ys level below_x below_y same k = by (c k x.0) refl
  where
    swapped : c k y.0 ≡ c k x.0
    swapped = o.antisymm k y.0 ∙ ap ordering_reverse (sym (o.congr x.0 y.0 k level)) ∙ sym (o.antisymm k x.0)

    apart : (r : Ordering) → c k x.0 ≡ r → is_eq r ≡ false → amount_in c k xs ≡ amount_in c k ys
    apart r e n =
        sym (other_amount c k x xs (ap is_eq e ∙ n)) ∙ same k ∙ other_amount c k y ys (ap is_eq (swapped ∙ e) ∙ n)

    by : (r : Ordering) → c k x.0 ≡ r → amount_in c k xs ≡ amount_in c k ys
    by Less e = apart Less e refl
    by Greater e = apart Greater e refl
    by Equal e =
        nothing_below c k xs (level_all c o k x.0 (keys_of xs) e below_x)
        ∙ sym (nothing_below c k ys (level_all c o k y.0 (keys_of ys) (swapped ∙ e) below_y))

pub are_alike : {K : Type 0} (c : K → K → Ordering) → IsTotalOrder c → (xs ys : List (K × ℤ))
    → IsStrictlySortedBy c (keys_of xs) → IsStrictlySortedBy c (keys_of ys) → AllByRecursion (λ e. pos 0 <ℤ e.1) xs → AllByRecursion (λ e. pos 0 <ℤ e.1) ys
    → ((k : K) → amount_in c k xs ≡ amount_in c k ys) → AreAlike c xs ys
are_alike c o [] [] sx sy px py same = tt
are_alike c o [] (y ∷ ys) sx sy px py same = positive y.1 py.0 (sym (own_amount c y.0 y ys (tied_itself o y.0)) ∙ sym (same y.0))
are_alike c o (x ∷ xs) [] sx sy px py same = positive x.1 px.0 (sym (own_amount c x.0 x xs (tied_itself o x.0)) ∙ same x.0)
are_alike {K} c o (x ∷ xs) (y ∷ ys) sx sy px py same =
    by (λ h. are_alike c o xs ys (tail_sorted c x.0 (keys_of xs) sx) (tail_sorted c y.0 (keys_of ys) sy) px.1 py.1 h) (c x.0 y.0) refl
  where
    above_x : AllByRecursion (λ z. c x.0 z ≡ Less) (keys_of xs)
    above_x = head_below c x.0 (keys_of xs) sx

    above_y : AllByRecursion (λ z. c y.0 z ≡ Less) (keys_of ys)
    above_y = head_below c y.0 (keys_of ys) sy

    by : (((k : K) → amount_in c k xs ≡ amount_in c k ys) → AreAlike c xs ys) → (r : Ordering) → c x.0 y.0 ≡ r → (c x.0 y.0 ≡ Equal) × (x.1 ≡ y.1) × AreAlike c xs ys
    by rest Less e = absurd (positive x.1 px.0 (sym (own_amount c x.0 x xs (tied_itself o x.0)) ∙ same x.0
        ∙ nothing_below c x.0 (y ∷ ys) (e, below_all c o x.0 y.0 (keys_of ys) e above_y)))
    by rest Greater e =
        let under : c y.0 x.0 ≡ Less = o.antisymm y.0 x.0 ∙ ap ordering_reverse e in
        absurd (positive y.1 py.0 (sym (own_amount c y.0 y ys (tied_itself o y.0)) ∙ sym (same y.0)
        ∙ nothing_below c y.0 (x ∷ xs) (under, below_all c o y.0 x.0 (keys_of xs) under above_x)))
    by rest Equal e = (
      e,
      sym (own_amount c x.0 x xs (tied_itself o x.0)) ∙ same x.0 ∙ own_amount c x.0 y ys e,
      rest (tails c o x y xs ys e above_x above_y same),
    )
