-- Elements of lists, each between what stands before and behind it.
use Rattle.std.proofs.Common.{◌≡◌, ◌≤◌, ◌+◌, ℕ, Bool, true, false, List, [], ◌∷◌, ◌++◌, map, length, fold, refl, sym, ◌∙◌, append_assoc, length-append, subst, arith}
use Rattle.std.specs.List.{All, AllByRecursion, flat_map, list_all, list_any, sum_by}
use Rattle.std.proofs.lemmas.List.Elements.{All-nil, All-cons, All-head, All-tail}
use Rattle.std.proofs.lemmas.Bool.{and_from, or_parts}
use Rattle.laws_commands.proofs.common.Lists.{all_first, all_second}

module _ {A : Type 0} (P : A → Type 0) where
  from : (xs pre ys : List A) → xs ≡ pre ++ ys → ((before behind : List A) (x : A) → xs ≡ before ++ (x ∷ behind) → P x) → AllByRecursion P ys
  from xs pre [] e f = tt
  from xs pre (y ∷ ys) e f = (f pre ys y e, from xs (pre ++ (y ∷ [])) ys (e ∙ sym (append_assoc pre (y ∷ []) ys)) f)

  pub each_among : (xs : List A) → ((before behind : List A) (x : A) → xs ≡ before ++ (x ∷ behind) → P x) → AllByRecursion P xs
  each_among xs f = from xs [] xs refl f

  pub all_of : (xs : List A) → AllByRecursion P xs → All P xs
  all_of [] h = All-nil P
  all_of (x ∷ xs) h = All-cons P x xs h.0 (all_of xs h.1)

  pub each_in : (xs : List A) → ((before behind : List A) (x : A) → xs ≡ before ++ (x ∷ behind) → P x) → All P xs
  each_in xs f = all_of xs (each_among xs f)

-- ---- lengths of parts

module _ {A : Type 0} (part : A → List ℕ) where
  pub part_within : (before behind : List A) (x : A) → length (part x) ≤ length (flat_map part (before ++ (x ∷ behind)))
  part_within [] behind x = omega (arith, length-append (part x) (flat_map part behind))
  part_within (y ∷ before) behind x =
      let rest = part_within before behind x in
      omega (arith, length-append (part y) (flat_map part (before ++ (x ∷ behind))), rest)

  pub parts_counted : ((x : A) → 1 ≤ length (part x)) → (xs : List A) → length xs ≤ length (flat_map part xs)
  parts_counted some [] = omega arith
  parts_counted some (x ∷ xs) =
      let rest = parts_counted some xs in
      let one = some x in
      omega (arith, length-append (part x) (flat_map part xs), rest, one)

-- ---- sums

module _ {A : Type 0} (f : A → ℕ) where
  grows : (n : ℕ) (xs : List A) → n ≤ fold (λ a x. a + f x) n xs
  grows n [] = omega arith
  grows n (x ∷ xs) = let rest = grows (n + f x) xs in omega (arith, rest)

  within : (n : ℕ) (before behind : List A) (x : A) → f x ≤ fold (λ a x. a + f x) n (before ++ (x ∷ behind))
  within n [] behind x = let rest = grows (n + f x) behind in omega (arith, rest)
  within n (y ∷ before) behind x = within (n + f y) before behind x

  pub one_within : (before behind : List A) (x : A) → f x ≤ sum_by f (before ++ (x ∷ behind))
  one_within before behind x = within 0 before behind x

module _ {A B : Type 0} (g : A → B) (f : B → ℕ) where
  over : (n : ℕ) (xs : List A) → fold (λ a x. a + f x) n (map g xs) ≡ fold (λ a x. a + f (g x)) n xs
  over n [] = refl
  over n (x ∷ xs) = over (n + f (g x)) xs

  pub sum_over : (xs : List A) → sum_by f (map g xs) ≡ sum_by (λ x. f (g x)) xs
  sum_over xs = over 0 xs

-- ---- properties of all

module _ {A : Type 0} (P : A → Type 0) where
  at : (before behind : List A) (x : A) → All P (before ++ (x ∷ behind)) → P x
  at [] behind x h = All-head P x behind h
  at (y ∷ before) behind x h = at before behind x (All-tail P y (before ++ (x ∷ behind)) h)

  pub here : (xs before behind : List A) (x : A) → xs ≡ before ++ (x ∷ behind) → All P xs → P x
  here xs before behind x e h = at before behind x (subst (All P) e h)

  pub among_parts : {B : Type 0} (part : B → List A) (before behind : List B) (x : B) → AllByRecursion P (flat_map part (before ++ (x ∷ behind))) →
      AllByRecursion P (part x)
  among_parts part [] behind x h = all_first P (part x) (flat_map part behind) h
  among_parts part (y ∷ before) behind x h = among_parts part before behind x (all_second P (part y) (flat_map part (before ++ (x ∷ behind))) h)

  pub all_unmapped : {B : Type 0} (f : B → A) (ys : List B) → All P (map f ys) → All (λ y. P (f y)) ys
  all_unmapped f [] h = All-nil (λ y. P (f y))
  all_unmapped f (y ∷ ys) h =
      All-cons (λ y. P (f y)) y ys (All-head P (f y) (map f ys) h) (all_unmapped f ys (All-tail P (f y) (map f ys) h))

  pub all_mapped : {B : Type 0} (f : B → A) (ys : List B) → AllByRecursion (λ y. P (f y)) ys → AllByRecursion P (map f ys)
  all_mapped f [] h = tt
  all_mapped f (y ∷ ys) h = (h.0, all_mapped f ys h.1)

-- ---- tests

module _ {A : Type 0} (test : A → Bool) where
  pub none_pass : (xs : List A) → list_any test xs ≡ false → AllByRecursion (λ x. test x ≡ false) xs
  none_pass [] h = tt
  none_pass (x ∷ xs) h = let hs = or_parts (test x) (list_any test xs) h in (hs.0, none_pass xs hs.1)

  pub all_pass : (xs : List A) → AllByRecursion (λ x. test x ≡ true) xs → list_all test xs ≡ true
  all_pass [] h = refl
  all_pass (x ∷ xs) h = and_from (test x) (list_all test xs) h.0 (all_pass xs h.1)
