-- The operations that a run returns, picked by their numbers among those that it issued.
use Rattle.std.proofs.Common.{◌≡◌, ◌≢◌, ◌≤◌, ◌^◌, ℕ, suc, List, [], ◌∷◌, ◌++◌, Bool, true, false, cond, Some, None, refl, sym, ap, ◌∙◌, subst, arith, ◌||◌, ◌==◌}
use Rattle.std.specs.declared.option.Option.{Option}
use Rattle.std.specs.List.{All, find, list_any}
use Rattle.std.proofs.lemmas.Bool.{eqb-true, eqb-false}
use Rattle.std.proofs.lemmas.List.Elements.{All-nil, All-cons, All-head, All-tail}
use Rattle.rules_data.specs.values.Val.{Vals, no_val, more_vals}
use Rattle.rules_data.specs.values.Val as v
use Rattle.rules_data.specs.values.Forms.{AllHave}
use Rattle.rules_data.specs.types.Kind as k
use Rattle.rules_code.specs.typing.Fits.{Known, Fits}
use Rattle.rules_code.specs.evaluation.Operations.{Operation, transfer, origination, event, Issued}
use Rattle.rules_world.specs.world.Runs.{with_number, numbers_in, stands_in, has_twice, with_issued, issued_with}
use Rattle.laws_world.specs.operations.Fresh.{made_by, made_by_issued, IsApart, AreNew}
use Rattle.laws_world.specs.operations.NewOperations.{IsCounted, AreInTurn}
use Rattle.laws_world.proofs.operations.Advances.{turns_grow}
use Rattle.laws_world.proofs.operations.NewContracts.{new_apart}

abbrev is_of : ℕ → Issued → Bool
is_of n i = i.number == n

-- ---- what is found

pub found_all : (P : Issued → Type 0) (n : ℕ) (xs : List Issued) (x : Issued) → find (is_of n) xs ≡ Some x → All P xs → P x
found_all P n [] x h a = absurd cc
found_all P n (y ∷ xs) x h a = by (is_of n y) h (λ g. found_all P n xs x g (All-tail P y xs a))
  where
    by : (b : Bool) → cond b (Some y) (find (is_of n) xs) ≡ Some x → (find (is_of n) xs ≡ Some x → P x) → P x
    by true e later = let same : y ≡ x = cc in subst P same (All-head P y xs a)
    by false e later = later e

-- a number that was issued is found
there_is : (n : ℕ) (xs : List Issued) → list_any (λ i. i.number == n) xs ≡ true → (x : Issued) × (find (is_of n) xs ≡ Some x)
there_is n [] h = absurd cc
there_is n (y ∷ xs) h = by (is_of n y) refl h (there_is n xs)
  where
    by : (b : Bool) → is_of n y ≡ b → (b || list_any (λ i. i.number == n) xs) ≡ true →
        (list_any (λ i. i.number == n) xs ≡ true → (x : Issued) × (find (is_of n) xs ≡ Some x)) →
        (x : Issued) × (cond b (Some y) (find (is_of n) xs) ≡ Some x)
    by true e g later = (y, refl)
    by false e g later = later g

-- ---- picks

abbrev pub AreIssued : List Issued → List ℕ → Type 0
AreIssued all [] = Unit {0}
AreIssued all (n ∷ ns) = (list_any (λ i. i.number == n) all ≡ true) × AreIssued all ns

-- all numbers in a list of operations were issued
pub numbers_issued : (w : Known) (all : List Issued) → ((n : ℕ) → w.is_issued n → list_any (λ i. i.number == n) all ≡ true) →
    (xs : Vals) → AllHave (Fits w k.operation) xs →
    (ns : List ℕ) × (numbers_in xs ≡ Some ns) × AreIssued all ns
numbers_issued w all h no_val f = ([], refl, tt)
numbers_issued w all h (more_vals (v.operation n) xs) f =
    let later = numbers_issued w all h xs f.1 in
    (n ∷ later.0, ap (with_number (Some n)) later.1, (h n f.0, later.2))
numbers_issued w all h (more_vals _ xs) f = absurd f.0

pub picked : (all : List Issued) (ns : List ℕ) → AreIssued all ns → (is : List Issued) × (issued_with all ns ≡ Some is)
picked all [] h = ([], refl)
picked all (n ∷ ns) h =
    let x = there_is n all h.0 in
    let later = picked all ns h.1 in
    (x.0 ∷ later.0, rw (x.1, later.1) refl)

-- how they were picked
abbrev pub ArePicked : List Issued → List ℕ → List Issued → Type 0
ArePicked all [] [] = Unit {0}
ArePicked all (n ∷ ns) (i ∷ is) = (find (is_of n) all ≡ Some i) × ArePicked all ns is
ArePicked all [] (i ∷ is) = ⊥
ArePicked all (n ∷ ns) [] = ⊥

pub picks_of : (all : List Issued) (ns : List ℕ) (is : List Issued) → issued_with all ns ≡ Some is → ArePicked all ns is
picks_of all [] [] h = tt
picks_of all [] (i ∷ is) h = absurd cc
picks_of all (n ∷ ns) is h = by (find (is_of n) all) (issued_with all ns) refl refl h (picks_of all ns)
  where
    by : (x : Option Issued) (xs : Option (List Issued)) → find (is_of n) all ≡ x → issued_with all ns ≡ xs →
        with_issued x xs ≡ Some is → ((js : List Issued) → issued_with all ns ≡ Some js → ArePicked all ns js) →
        ArePicked all (n ∷ ns) is
    by (Some x) (Some xs) e f g later = let same : x ∷ xs ≡ is = cc in subst (ArePicked all (n ∷ ns)) same (e, later xs f)
    by (Some x) None e f g later = absurd cc
    by None xs e f g later = absurd cc

pub picked_all : (P : Issued → Type 0) (all : List Issued) (ns : List ℕ) (is : List Issued) → ArePicked all ns is → All P all →
    All P is
picked_all P all [] [] h a = All-nil P
picked_all P all (n ∷ ns) (i ∷ is) h a = All-cons P i is (found_all P n all i h.0 a) (picked_all P all ns is h.1 a)
picked_all P all [] (i ∷ is) h a = absurd h
picked_all P all (n ∷ ns) [] h a = absurd h

-- ---- their contracts

-- those that an operation makes are new
abbrev MakesNew : ℕ → ℕ → ℕ → Operation → Type 0
MakesNew g from to op = AreNew g from to (made_by op)

counted_new : (g i k j : ℕ) (op : Operation) → IsCounted g i k op → k ≤ j → MakesNew g i j op
counted_new g i k j (transfer argument amount destination) h le = tt
counted_new g i k j (origination delegate amount script storage hash) h le = let e = h.2 in
    ((h.0, h.1, omega (arith, e, le), h.3), tt, tt)
counted_new g i k j (event tag kind value) h le = tt

wider_new : (g i k j : ℕ) (op : Operation) → i ≤ k → MakesNew g k j op → MakesNew g i j op
wider_new g i k j (transfer argument amount destination) le h = tt
wider_new g i k j (origination delegate amount script storage hash) le h = let more = h.0.1 in
    ((h.0.0, omega (arith, more, le), h.0.2, h.0.3), tt, tt)
wider_new g i k j (event tag kind value) le h = tt

counted_grows : (g i k : ℕ) (op : Operation) → IsCounted g i k op → i ≤ k
counted_grows g i k (transfer argument amount destination) h = h
counted_grows g i k (origination delegate amount script storage hash) h = let le = h.1 in let e = h.2 in omega (arith, le, e)
counted_grows g i k (event tag kind value) h = h

found_new : (g a i m j n : ℕ) (xs : List Issued) (x : Issued) → AreInTurn g a i m j xs → find (is_of n) xs ≡ Some x →
    MakesNew g i j x.operation
found_new g a i m j n [] x t h = absurd cc
found_new g a i m j n (y ∷ xs) x t h = by (is_of n y) h (found_new g (suc y.number) t.1.0 m j n xs x t.1.2)
  where
    by : (b : Bool) → cond b (Some y) (find (is_of n) xs) ≡ Some x →
        (find (is_of n) xs ≡ Some x → MakesNew g t.1.0 j x.operation) → MakesNew g i j x.operation
    by true e later =
        let same : y ≡ x = cc in
        subst (λ (x : Issued). MakesNew g i j x.operation) same
        (counted_new g i t.1.0 j y.operation t.1.1 (turns_grow g (suc y.number) t.1.0 m j xs t.1.2).1)
    by false e later = wider_new g i t.1.0 j x.operation (counted_grows g i t.1.0 y.operation t.1.1) (later e)

-- none of the first is one of the second
abbrev AreApart : List (List ℕ) → List (List ℕ) → Type 0
AreApart [] ks = Unit {0}
AreApart (h ∷ hs) ks = IsApart h ks × AreApart hs ks

-- one of a count, and those behind it
before_behind : (g i k j : ℕ) (x y : Operation) → j ≤ 2 ^ 32 → IsCounted g i k x → MakesNew g k j y →
    AreApart (made_by x) (made_by y)
before_behind g i k j (transfer argument amount destination) y small c n = tt
before_behind g i k j (event tag kind value) y small c n = tt
before_behind g i k j (origination delegate amount script storage hash) (transfer a b d) small c n = (tt, tt)
before_behind g i k j (origination delegate amount script storage hash) (event a b d) small c n = (tt, tt)
before_behind g i k j (origination delegate amount script storage hash) (origination d b u t h) small c n = ((other, tt), tt)
  where
    other : hash ≢ h
    other same =
        let below = n.0.2 in
        let least = n.0.1 in
        let e = c.2 in
        let one : c.0 ≡ n.0.0 = new_apart g c.0 n.0.0 (omega (arith, below, least, e, small)) (omega (arith, below, small))
        (sym c.3 ∙ same ∙ n.0.3) in
        omega (arith, one, least, e)

behind_before : (g i k j : ℕ) (x y : Operation) → j ≤ 2 ^ 32 → IsCounted g i k x → MakesNew g k j y →
    AreApart (made_by y) (made_by x)
behind_before g i k j x (transfer argument amount destination) small c n = tt
behind_before g i k j x (event tag kind value) small c n = tt
behind_before g i k j (transfer a b d) (origination delegate amount script storage hash) small c n = (tt, tt)
behind_before g i k j (event a b d) (origination delegate amount script storage hash) small c n = (tt, tt)
behind_before g i k j (origination d b u t h) (origination delegate amount script storage hash) small c n =
    let o = before_behind g i k j (origination d b u t h) (origination delegate amount script storage hash) small c n in
    (((λ same. o.0.0 (sym same)), tt), tt)

found_apart : (g a i m j p q : ℕ) (xs : List Issued) (x y : Issued) → j ≤ 2 ^ 32 → AreInTurn g a i m j xs → (p ≡ q → ⊥) →
    find (is_of p) xs ≡ Some x → find (is_of q) xs ≡ Some y → AreApart (made_by x.operation) (made_by y.operation)
found_apart g a i m j p q [] x y small t other h f = absurd cc
found_apart g a i m j p q (z ∷ xs) x y small t other h f =
    by (is_of p z) (is_of q z) refl refl h f (found_apart g (suc z.number) t.1.0 m j p q xs x y small t.1.2 other)
  where
    by : (b c : Bool) → is_of p z ≡ b → is_of q z ≡ c → cond b (Some z) (find (is_of p) xs) ≡ Some x →
        cond c (Some z) (find (is_of q) xs) ≡ Some y →
        (find (is_of p) xs ≡ Some x → find (is_of q) xs ≡ Some y → AreApart (made_by x.operation) (made_by y.operation)) →
        AreApart (made_by x.operation) (made_by y.operation)
    by true true e e' h f later = absurd (other (sym (eqb-true z.number p e) ∙ eqb-true z.number q e'))
    by true false e e' h f later =
        let same : z ≡ x = cc in
        subst (λ (x : Issued). AreApart (made_by x.operation) (made_by y.operation)) same
        (before_behind g i t.1.0 j z.operation y.operation small t.1.1 (found_new g (suc z.number) t.1.0 m j q xs y t.1.2 f))
    by false true e e' h f later =
        let same : z ≡ y = cc in
        subst (λ (y : Issued). AreApart (made_by x.operation) (made_by y.operation)) same
        (behind_before g i t.1.0 j z.operation x.operation small t.1.1 (found_new g (suc z.number) t.1.0 m j p xs x t.1.2 h))
    by false false e e' h f later = later h f

apart_more : (hs ks ls : List (List ℕ)) → AreApart hs ks → AreApart hs ls → AreApart hs (ks ++ ls)
apart_more [] ks ls a b = tt
apart_more (h ∷ hs) ks ls a b = (one h ks a.0 b.0, apart_more hs ks ls a.1 b.1)
  where
    one : (h : List ℕ) (ks : List (List ℕ)) → IsApart h ks → IsApart h ls → IsApart h (ks ++ ls)
    one h [] a b = b
    one h (k ∷ ks) a b = (a.0, one h ks a.1 b)

apart_none : (hs : List (List ℕ)) → AreApart hs []
apart_none [] = tt
apart_none (h ∷ hs) = (tt, apart_none hs)

new_more : (g i j : ℕ) (hs ks : List (List ℕ)) → AreNew g i j hs → AreNew g i j ks → AreApart hs ks → AreNew g i j (hs ++ ks)
new_more g i j [] ks a b c = b
new_more g i j (h ∷ hs) ks a b c = (a.0, one h hs a.1 c.0, new_more g i j hs ks a.2 b c.1)
  where
    one : (h : List ℕ) (hs : List (List ℕ)) → IsApart h hs → IsApart h ks → IsApart h (hs ++ ks)
    one h [] a b = b
    one h (k ∷ hs) a b = (a.0, one h hs a.1 b)

-- a number that doesn't stand among others
stands_not : (n : ℕ) (ns : List ℕ) (m : ℕ) → stands_in n (m ∷ ns) ≡ false → (n ≡ m → ⊥) × (stands_in n ns ≡ false)
stands_not n ns m h = by (m == n) refl h
  where
    by : (b : Bool) → (m == n) ≡ b → (b || stands_in n ns) ≡ false → (n ≡ m → ⊥) × (stands_in n ns ≡ false)
    by true e g = absurd cc
    by false e g = ((λ same. eqb-false m n e (sym same)), g)

one_apart : (g a i m j n : ℕ) (all : List Issued) (x : Issued) (ns : List ℕ) (is : List Issued) → j ≤ 2 ^ 32 →
    AreInTurn g a i m j all → find (is_of n) all ≡ Some x → stands_in n ns ≡ false → ArePicked all ns is →
    AreApart (made_by x.operation) (made_by_issued is)
one_apart g a i m j n all x [] [] small t f s p = apart_none (made_by x.operation)
one_apart g a i m j n all x (q ∷ ns) (y ∷ is) small t f s p =
    let o = stands_not n ns q s in
    apart_more (made_by x.operation) (made_by y.operation) (made_by_issued is)
    (found_apart g a i m j n q all x y small t o.0 f p.0) (one_apart g a i m j n all x ns is small t f o.1 p.1)
one_apart g a i m j n all x [] (y ∷ is) small t f s p = absurd p
one_apart g a i m j n all x (q ∷ ns) [] small t f s p = absurd p

no_twice : (n : ℕ) (ns : List ℕ) → has_twice (n ∷ ns) ≡ false → (stands_in n ns ≡ false) × (has_twice ns ≡ false)
no_twice n ns h = by (stands_in n ns) h
  where
    by : (b : Bool) → (b || has_twice ns) ≡ false → (b ≡ false) × (has_twice ns ≡ false)
    by true g = absurd cc
    by false g = (refl, g)

-- the contracts that picked operations make are new
pub picked_new : (g a i m j : ℕ) (all : List Issued) (ns : List ℕ) (is : List Issued) → j ≤ 2 ^ 32 → AreInTurn g a i m j all →
    has_twice ns ≡ false → ArePicked all ns is → AreNew g i j (made_by_issued is)
picked_new g a i m j all [] [] small t h p = tt
picked_new g a i m j all (n ∷ ns) (x ∷ is) small t h p =
    let o = no_twice n ns h in
    new_more g i j (made_by x.operation) (made_by_issued is) (found_new g a i m j n all x t p.0)
    (picked_new g a i m j all ns is small t o.1 p.1) (one_apart g a i m j n all x ns is small t p.0 o.0 p.1)
picked_new g a i m j all [] (x ∷ is) small t h p = absurd p
picked_new g a i m j all (n ∷ ns) [] small t h p = absurd p
