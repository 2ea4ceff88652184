-- Lists whose elements all have a property, and options that have one where something is there.
use Rattle.std.proofs.Common.{◌≡◌, ℕ, zero, suc, Bool, true, Some, List, [], ◌∷◌, ◌++◌, map, take, drop, refl, subst, Option, None}
use Rattle.std.specs.Prelude.{slice_get, insert, remove, replicate}
use Rattle.std.specs.List.{AllByRecursion, flat_map, list_all}
use Rattle.std.proofs.lemmas.Bool.{and_parts, and_from}

abbrev pub OnSome : {A : Type 0} → (A → Type 0) → Option A → Type 0
OnSome P None = Unit {0}
OnSome P (Some x) = P x

module _ {X : Type 0} (P : X → Type 0) where
  pub all_append : (xs ys : List X) → AllByRecursion P xs → AllByRecursion P ys → AllByRecursion P (xs ++ ys)
  all_append [] ys h g = g
  all_append (x ∷ xs) ys h g = (h.0, all_append xs ys h.1 g)

  pub all_take : (n : ℕ) (xs : List X) → AllByRecursion P xs → AllByRecursion P (take n xs)
  all_take zero xs h = tt
  all_take (suc n) [] h = tt
  all_take (suc n) (x ∷ xs) h = (h.0, all_take n xs h.1)

  pub all_drop : (n : ℕ) (xs : List X) → AllByRecursion P xs → AllByRecursion P (drop n xs)
  all_drop zero xs h = h
  all_drop (suc n) [] h = tt
  all_drop (suc n) (x ∷ xs) h = all_drop n xs h.1

  pub all_get : (n : ℕ) (xs : List X) (x : X) → AllByRecursion P xs → slice_get xs n ≡ Some x → P x
  all_get n [] x h e = absurd cc
  all_get zero (y ∷ xs) x h e = let f : y ≡ x = cc in subst P f h.0
  all_get (suc n) (y ∷ xs) x h e = all_get n xs x h.1 e

  pub all_insert : (n : ℕ) (xs : List X) (x : X) → AllByRecursion P xs → P x → AllByRecursion P (insert xs n x)
  all_insert n xs x h g = all_append (take n xs) (x ∷ drop n xs) (all_take n xs h) (g, all_drop n xs h)

  pub all_remove : (n : ℕ) (xs : List X) → AllByRecursion P xs → AllByRecursion P (remove xs n)
  all_remove n xs h = all_append (take n xs) (drop (suc n) xs) (all_take n xs h) (all_drop (suc n) xs h)

  pub all_first : (xs ys : List X) → AllByRecursion P (xs ++ ys) → AllByRecursion P xs
  all_first [] ys h = tt
  all_first (x ∷ xs) ys h = (h.0, all_first xs ys h.1)

  pub all_second : (xs ys : List X) → AllByRecursion P (xs ++ ys) → AllByRecursion P ys
  all_second [] ys h = h
  all_second (x ∷ xs) ys h = all_second xs ys h.1

  pub both_all : (Q : X → Type 0) (xs : List X) → AllByRecursion P xs → ((x : X) → P x → Q x) → AllByRecursion Q xs
  both_all Q [] h f = tt
  both_all Q (x ∷ xs) h f = (f x h.0, both_all Q xs h.1 f)

  pub all_replicate : (n : ℕ) (x : X) → P x → AllByRecursion P (replicate n x)
  all_replicate zero x h = tt
  all_replicate (suc n) x h = (h, all_replicate n x h)

  pub all_test : (test : X → Bool) (xs : List X) → ((x : X) → test x ≡ true → P x) → list_all test xs ≡ true → AllByRecursion P xs
  all_test test [] f h = tt
  all_test test (x ∷ xs) f h = let hs = and_parts (test x) (list_all test xs) h in (f x hs.0, all_test test xs f hs.1)

  pub all_tested : (test : X → Bool) (xs : List X) → ((x : X) → P x → test x ≡ true) → AllByRecursion P xs → list_all test xs ≡ true
  all_tested test [] f h = refl
  all_tested test (x ∷ xs) f h = and_from (test x) (list_all test xs) (f x h.0) (all_tested test xs f h.1)

pub all_map : {X Y : Type 0} (P : X → Type 0) (Q : Y → Type 0) (f : X → Y) (xs : List X) → ((x : X) → P x → Q (f x)) → AllByRecursion P xs →
    AllByRecursion Q (map f xs)
all_map P Q f [] g h = tt
all_map P Q f (x ∷ xs) g h = (g x h.0, all_map P Q f xs g h.1)

pub all_flat : {X Y : Type 0} (P : X → Type 0) (Q : Y → Type 0) (f : X → List Y) (xs : List X) → ((x : X) → P x → AllByRecursion Q (f x)) →
    AllByRecursion P xs →
    AllByRecursion Q (flat_map f xs)
all_flat P Q f [] g h = tt
all_flat P Q f (x ∷ xs) g h = all_append Q (f x) (flat_map f xs) (g x h.0) (all_flat P Q f xs g h.1)
