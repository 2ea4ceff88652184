-- What is read with less kept of it agrees with what is read.
use Rattle.std.specs.Prelude.{◌≡◌, ℕ, ◌+◌, false, List, [], ◌∷◌, length, Option, Some, None, Result, Ok, Err}
use Rattle.rules_text.specs.binary.Reading.{Spot}
use Rattle.rules_data.specs.types.Kind.{Kind}
use Rattle.rules_data.specs.values.Val.{Val}
use Rattle.rules_files.specs.snapshots.Rules.{is_stored}

-- both fail at one place, or both go on at one spot, with what they read in this relation
abbrev pub Agree : {A B : Type 0} → (A → B → Type 0) → Result (A × Spot) ℕ → Result (B × Spot) ℕ → Type 0
Agree R (Ok x) (Ok y) = (x.1 ≡ y.1) × R x.0 y.0
Agree R (Err p) (Err q) = p ≡ q
Agree R (Ok x) (Err q) = ⊥
Agree R (Err p) (Ok y) = ⊥

-- a value is kept, or it isn't one of its type
abbrev pub IsKept : Kind → Val → Option Val → Type 0
IsKept a x (Some y) = x ≡ y
IsKept a x None = is_stored a x ≡ false

-- one by one
abbrev pub Each : {A B : Type 0} → (A → B → Type 0) → List A → List B → Type 0
Each R [] [] = Unit {0}
Each R (x ∷ xs) (y ∷ ys) = R x y × Each R xs ys
Each R [] (y ∷ ys) = ⊥
Each R (x ∷ xs) [] = ⊥

-- one by one, each at its place, where parts take so many bytes
abbrev pub EachAt : {A B : Type 0} → (A → B → Type 0) → (A → List ℕ) → ℕ → List A → List (ℕ × B) → Type 0
EachAt R spell place [] [] = Unit {0}
EachAt R spell place (x ∷ xs) (y ∷ ys) = (y.0 ≡ place) × R x y.1 × EachAt R spell (place + length (spell x)) xs ys
EachAt R spell place [] (y ∷ ys) = ⊥
EachAt R spell place (x ∷ xs) [] = ⊥

abbrev pub IsSame : {A : Type 0} → A → A → Type 0
IsSame x y = x ≡ y
