-- Parts read one behind the other, as a loop reads them.
use Rattle.std.proofs.Common.{◌≡◌, ℕ, suc, ◌-◌, ◌+◌, ◌≤◌, ◌<◌, List, [], ◌∷◌, ◌++◌, map, Result, Ok, Err, refl, sym, ap, ◌∙◌, append_assoc, arith}
use Rattle.std.proofs.lemmas.List.{map_push, append-nil}
use Rattle.rules_text.specs.binary.Reading.{Spot}
use Rattle.rules_files.specs.snapshots.Reading.{Reader, ◌>>=◌, parts_at}
use Rattle.mich_saved.specs.Results.{Fails}
use Rattle.mich_saved.specs.declared.errors.LoadError.{LoadError}
use Rattle.mich_saved.proofs.Fronts.{fails_with}

-- what was read before, and what is still read
abbrev pub with_front : {A : Type 0} → List A → Result (List A × Spot) ℕ → Result (List A × Spot) ℕ
with_front front read = read >>= λ x. Ok (front ++ x.0, x.1)

regroup : {A : Type 0} (front : List A) (y : A) (read : Result (List A × Spot) ℕ) → with_front front (read >>= λ xs. Ok (y ∷ xs.0, xs.1)) ≡ with_front (front ++ y ∷ []) read
regroup {A = A} front y (Ok x) = ap (λ (xs : List A). Ok (xs, x.1)) (sym (append_assoc front (y ∷ []) x.0))
regroup {A = A} front y (Err place) = refl

pub go_on : {A B : Type 0} (part : Reader A) (view : B → A) (xs ys : List B) (x : B) (count i : ℕ) (here after : Spot) (whole : Result (List A × Spot) ℕ) → i < count → part here ≡ Ok (view x, after)
    → ys ≡ xs ++ x ∷ [] → with_front (map view xs) (parts_at part (count - i) here) ≡ whole → with_front (map view ys) (parts_at part (count - (i + 1)) after) ≡ whole
go_on {A = A} part view xs ys x count i here after whole lt h p so_far =
    let k : count - i ≡ suc (count - (i + 1)) = omega arith in
    let one : with_front (map view xs) (parts_at part (count - i) here) ≡ with_front (map view xs ++ view x ∷ []) (parts_at part (count - (i + 1)) after) =
    rw (k, h) (regroup (map view xs) (view x) (parts_at part (count - (i + 1)) after)) in
    let same : map view ys ≡ map view xs ++ view x ∷ [] = ap (map view) p ∙ map_push view xs x in
    ap (λ (f : List A). with_front f (parts_at part (count - (i + 1)) after)) same ∙ (sym one ∙ so_far)

pub end_in : {A B : Type 0} (e : LoadError) (part : Reader A) (view : B → A) (xs : List B) (count i : ℕ) (here : Spot) (whole : Result (List A × Spot) ℕ) → i < count → Fails e (part here)
    → with_front (map view xs) (parts_at part (count - i) here) ≡ whole → Fails e whole
end_in e part view xs count i here whole lt f so_far =
    let k : count - i ≡ suc (count - (i + 1)) = omega arith in
    let failed : (place : ℕ) → part here ≡ Err place → whole ≡ Err place = λ place h.
    let one : with_front (map view xs) (parts_at part (count - i) here) ≡ Err place = rw (k, h) refl in sym so_far ∙ one in
    fails_with e (part here) whole failed f

pub are_done : {A B : Type 0} (part : Reader A) (view : B → A) (xs : List B) (count i : ℕ) (here : Spot) (whole : Result (List A × Spot) ℕ) → count ≤ i
    → with_front (map view xs) (parts_at part (count - i) here) ≡ whole → whole ≡ Ok (map view xs, here)
are_done {A = A} part view xs count i here whole le so_far =
    let k : count - i ≡ 0 = omega arith in
    let one : with_front (map view xs) (parts_at part (count - i) here) ≡ Ok (map view xs, here) =
    rw k (ap (λ (l : List A). Ok (l, here)) (append-nil (map view xs))) in
    sym so_far ∙ one

nothing_before : {A : Type 0} (read : Result (List A × Spot) ℕ) → with_front [] read ≡ read
nothing_before (Ok x) = refl
nothing_before (Err place) = refl

pub starts : {A B : Type 0} (part : Reader A) (view : B → A) (xs : List B) (count : ℕ) (here : Spot) → xs ≡ [] → with_front (map view xs) (parts_at part (count - 0) here) ≡ parts_at part count here
starts {B = B} part view xs count here e =
    let n : count - 0 ≡ count = omega arith in
    ap (λ (ys : List B). with_front (map view ys) (parts_at part (count - 0) here)) e
    ∙ (nothing_before (parts_at part (count - 0) here) ∙ ap (λ (m : ℕ). parts_at part m here) n)

pub ruleset lines = (starts, go_on, end_in, are_done)
