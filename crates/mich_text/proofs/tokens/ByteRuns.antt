-- A run of bytes that pass a test, with more bytes behind it and in a front of them.
use Rattle.std.specs.Prelude.{◌==◌}
use Rattle.std.proofs.Common.{◌≡◌, ℕ, suc, ◌+◌, ◌≤◌, ◌<◌, Bool, true, false, cond, ◌||◌, ltb, List, [], ◌∷◌, ◌++◌, length, take, drop, Result, refl, sym, ap, ◌∙◌, arith}
use Rattle.std.proofs.lemmas.List.{take-append-le, drop-append-le, length-drop, length-append, length-take, get_or-take}
use Rattle.std.specs.List.{prefix_len, AllPass}
use Rattle.std.proofs.lemmas.Bool.{ltb-true, ltb-false}
use Rattle.std.proofs.lemmas.List.Sums.{prefix_len_passes}
use Rattle.rules_text.specs.text.Fault.{Flaw}
use Rattle.mich_text.proofs.tokens.Properties.{IsCut, IsStable}

-- what may follow a printed token: nothing, a space or a closing parenthesis
abbrev pub IsApart : List ℕ → Type 0
IsApart [] = Unit {0}
IsApart (c ∷ rest) = (c == 32 || c == 41) ≡ true

abbrev pub IsAll : (ℕ → Bool) → List ℕ → Type 0
IsAll p [] = Unit {0}
IsAll p (c ∷ cs) = (p c ≡ true) × IsAll p cs

-- a run of bytes that pass ends where it is printed
pub run_ends : (p : ℕ → Bool) (text rest : List ℕ) → IsAll p text → ((c : ℕ) → (c == 32 || c == 41) ≡ true → p c ≡ false) → IsApart rest
    → prefix_len p (text ++ rest) ≡ length text
run_ends p [] [] h f a = refl
run_ends p [] (c ∷ rest) h f a = rw (f c a) refl
run_ends p (c ∷ text) rest h f a = rw h.0 (omega (arith, run_ends p text rest h.1 f a))

pub prefix_some : (p : ℕ → Bool) (c : ℕ) (rest : List ℕ) → p c ≡ true → 0 < prefix_len p (c ∷ rest)
prefix_some p c rest e = rw e (omega arith)

pub front_passes : (p : ℕ → Bool) (xs ys : List ℕ) (n : ℕ) → ys ≡ take n xs → n ≡ prefix_len p xs → AllPass p ys
front_passes p xs ys n e f k d lt =
    let len : length ys ≤ n = omega (arith, ap length e, length-take n xs) in
    let below : k < n = omega arith in
    let before : k < prefix_len p xs = omega arith in
    rw (e, get_or-take n xs k d below) (prefix_len_passes p xs k d before)

one_more_is : (n : ℕ) → 1 + n ≡ suc n
one_more_is n = omega arith

run_by : (p : ℕ → Bool) (x : ℕ) (xs : List ℕ) (t : Bool) → p x ≡ t → IsAll p (take (prefix_len p xs) xs)
    → IsAll p (take (cond t (1 + prefix_len p xs) 0) (x ∷ xs))
run_by p x xs true e h = rw (one_more_is (prefix_len p xs)) (e, h)
run_by p x xs false e h = tt

pub run_all : (p : ℕ → Bool) (xs : List ℕ) → IsAll p (take (prefix_len p xs) xs)
run_all p [] = tt
run_all p (x ∷ xs) = run_by p x xs (p x) refl (run_all p xs)

-- ---- with more bytes behind it

prefix_by : (b : Bool) (n m l : ℕ) → (n < l → m ≡ n) → cond b (1 + n) 0 < suc l → cond b (1 + m) 0 ≡ cond b (1 + n) 0
prefix_by true n m l ih h = ap (λ k. 1 + k) (ih (omega arith))
prefix_by false n m l ih h = refl

pub prefix_stable : (p : ℕ → Bool) (xs more : List ℕ) → prefix_len p xs < length xs → prefix_len p (xs ++ more) ≡ prefix_len p xs
prefix_stable p [] more h = absurd (omega arith)
prefix_stable p (x ∷ xs) more h = prefix_by (p x) (prefix_len p xs) (prefix_len p (xs ++ more)) (length xs) (prefix_stable p xs more) h

grows_by : (b : Bool) (n m : ℕ) → n ≤ m → cond b (1 + n) 0 ≤ cond b (1 + m) 0
grows_by true n m h = omega (arith, h)
grows_by false n m h = omega arith

pub prefix_grows : (p : ℕ → Bool) (xs more : List ℕ) → prefix_len p xs ≤ prefix_len p (xs ++ more)
prefix_grows p [] more = omega arith
prefix_grows p (x ∷ xs) more = grows_by (p x) (prefix_len p xs) (prefix_len p (xs ++ more)) (prefix_grows p xs more)

-- what is made of a run of bytes that pass, and of what follows it
pub run_stable : {A : Type 0} (f g : ℕ → List ℕ → List ℕ → Result (A × List ℕ) Flaw) (p : ℕ → Bool) (xs more : List ℕ)
    → ((n : ℕ) (front : List ℕ) (c : ℕ) (rest : List ℕ) → IsStable more (f n front (c ∷ rest)) (g n front (c ∷ (rest ++ more))))
    → ((n : ℕ) (front : List ℕ) (again : Result (A × List ℕ) Flaw) → IsStable more (f n front []) again)
    → IsStable more (f (prefix_len p xs) (take (prefix_len p xs) xs) (drop (prefix_len p xs) xs))
    (g (prefix_len p (xs ++ more)) (take (prefix_len p (xs ++ more)) (xs ++ more)) (drop (prefix_len p (xs ++ more)) (xs ++ more)))
run_stable f g p xs more at_byte at_end = by (drop n xs) refl where
  n : ℕ
  n = prefix_len p xs

  by : (l : List ℕ) → drop n xs ≡ l → IsStable more (f n (take n xs) (drop n xs))
      (g (prefix_len p (xs ++ more)) (take (prefix_len p (xs ++ more)) (xs ++ more)) (drop (prefix_len p (xs ++ more)) (xs ++ more)))
  by [] e = rw e (at_end n (take n xs) _)
  by (c ∷ rest) e =
      let lt : n < length xs = omega (arith, length-drop n xs, ap length e) in
      let same : prefix_len p (xs ++ more) ≡ n = prefix_stable p xs more lt in
      let front : take n (xs ++ more) ≡ take n xs = take-append-le n xs more (omega arith) in
      let back : drop n (xs ++ more) ≡ c ∷ (rest ++ more) = drop-append-le n xs more (omega arith) ∙ ap (λ l. l ++ more) e in
      rw (same, front, back, e) (at_byte n (take n xs) c rest)

-- a run and what stands behind it
more_by : (p : ℕ → Bool) (x : ℕ) (xs ys : List ℕ) (b : Bool) → p x ≡ b
    → (prefix_len p xs ≡ length xs → prefix_len p (xs ++ ys) ≡ length xs + prefix_len p ys)
    → cond (p x) (1 + prefix_len p xs) 0 ≡ suc (length xs) → cond (p x) (1 + prefix_len p (xs ++ ys)) 0 ≡ suc (length xs) + prefix_len p ys
more_by p x xs ys true h again e =
    let inner : 1 + prefix_len p xs ≡ suc (length xs) = ap (λ (t : Bool). cond t (1 + prefix_len p xs) 0) (sym h) ∙ e in
    let more = again (omega (arith, inner)) in
    ap (λ (t : Bool). cond t (1 + prefix_len p (xs ++ ys)) 0) h ∙ omega (arith, more)
more_by p x xs ys false h again e =
    let inner : 0 ≡ suc (length xs) = ap (λ (t : Bool). cond t (1 + prefix_len p xs) 0) (sym h) ∙ e in
    absurd (omega (arith, inner))

pub all_more : (p : ℕ → Bool) (xs ys : List ℕ) → prefix_len p xs ≡ length xs → prefix_len p (xs ++ ys) ≡ length xs + prefix_len p ys
all_more p [] ys e = omega arith
all_more p (x ∷ xs) ys e = more_by p x xs ys (p x) refl (all_more p xs ys) e

-- ---- in a front of the text

-- a run that ends in the front
prefix_cut : (p : ℕ → Bool) (xs more : List ℕ) → prefix_len p (xs ++ more) < length xs → prefix_len p xs ≡ prefix_len p (xs ++ more)
prefix_cut p xs more h = sym (prefix_stable p xs more (omega (arith, h, prefix_grows p xs more)))

-- what is made of a run of bytes that pass, and of what follows it
pub run_cut : {A : Type 0} (f g : ℕ → List ℕ → List ℕ → Result (A × List ℕ) Flaw) (p : ℕ → Bool) (xs more : List ℕ)
    → ((n : ℕ) (front : List ℕ) (c : ℕ) (rest : List ℕ) → IsCut more (f n front (c ∷ rest)) (g n front (c ∷ (rest ++ more))))
    → ((n : ℕ) (front rest : List ℕ) (other : Result (A × List ℕ) Flaw) → length rest ≤ length more → IsCut more other (g n front rest))
    → IsCut more (f (prefix_len p xs) (take (prefix_len p xs) xs) (drop (prefix_len p xs) xs))
    (g (prefix_len p (xs ++ more)) (take (prefix_len p (xs ++ more)) (xs ++ more)) (drop (prefix_len p (xs ++ more)) (xs ++ more)))
run_cut {A} f g p xs more at_byte at_end = by (ltb m (length xs)) refl where
  m : ℕ
  m = prefix_len p (xs ++ more)

  Goal : Type 0
  Goal =
      IsCut more (f (prefix_len p xs) (take (prefix_len p xs) xs) (drop (prefix_len p xs) xs))
      (g m (take m (xs ++ more)) (drop m (xs ++ more)))

  inside : m < length xs → (l : List ℕ) → drop m xs ≡ l → Goal
  inside lt [] e = absurd (omega (arith, length-drop m xs, ap (λ (l : List ℕ). length l) e, lt))
  inside lt (c ∷ rest) e =
      let same : prefix_len p xs ≡ m = prefix_cut p xs more lt in
      let front : take m (xs ++ more) ≡ take m xs = take-append-le m xs more (omega (arith, lt)) in
      let back : drop m (xs ++ more) ≡ c ∷ (rest ++ more) = drop-append-le m xs more (omega (arith, lt)) ∙ ap (λ l. l ++ more) e in
      rw (same, front, back, e) (at_byte m (take m xs) c rest)

  by : (b : Bool) → ltb m (length xs) ≡ b → Goal
  by true e = inside (ltb-true m (length xs) e) (drop m xs) refl
  by false e =
      at_end m (take m (xs ++ more)) (drop m (xs ++ more)) _
      (omega (arith, length-drop m (xs ++ more), length-append xs more, ltb-false m (length xs) e))

front_by : (p : ℕ → Bool) (x : ℕ) (xs ys : List ℕ) (b : Bool) → p x ≡ b
    → (prefix_len p (xs ++ ys) ≡ length (xs ++ ys) → prefix_len p xs ≡ length xs)
    → cond (p x) (1 + prefix_len p (xs ++ ys)) 0 ≡ suc (length (xs ++ ys)) → cond (p x) (1 + prefix_len p xs) 0 ≡ suc (length xs)
front_by p x xs ys true h again e =
    let inner : 1 + prefix_len p (xs ++ ys) ≡ suc (length (xs ++ ys)) = ap (λ (t : Bool). cond t (1 + prefix_len p (xs ++ ys)) 0) (sym h)
    ∙ e in
    let front = again (omega (arith, inner)) in
    ap (λ (t : Bool). cond t (1 + prefix_len p xs) 0) h ∙ omega (arith, front)
front_by p x xs ys false h again e =
    let inner : 0 ≡ suc (length (xs ++ ys)) = ap (λ (t : Bool). cond t (1 + prefix_len p (xs ++ ys)) 0) (sym h) ∙ e in
    absurd (omega (arith, inner))

pub all_front : (p : ℕ → Bool) (xs ys : List ℕ) → prefix_len p (xs ++ ys) ≡ length (xs ++ ys) → prefix_len p xs ≡ length xs
all_front p [] ys e = refl
all_front p (x ∷ xs) ys e = front_by p x xs ys (p x) refl (all_front p xs ys) e
