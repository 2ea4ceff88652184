-- What comes of trying the rules of parts.
use Rattle.std.specs.Prelude.{◌≡◌, ℕ, Bool, true, false, List, Some, None, Result, Ok, Err}
use Rattle.rules_files.specs.snapshots.Rules.{Part, first_fault}
use Rattle.mich_saved.specs.declared.errors.LoadError.{LoadError}
use Rattle.mich_saved.specs.declared.errors.LoadError.TheVariants as errors

-- The rules of all parts hold, which begin at a place; or those of the part at the place that is told are the first that fail. After want of
-- memory nothing is said.
abbrev pub Tries : {A : Type 0} → ℕ → List Part → Result A LoadError → Type 0
Tries place ps (Ok x) = first_fault place ps ≡ None
Tries place ps (Err (errors.Unsound p)) = first_fault place ps ≡ Some p
Tries place ps (Err errors.Memory) = Unit {0}
Tries place ps (Err (errors.BadForm p)) = ⊥

-- the rules of a part hold, and so does P of what was made of it; or they don't, and the place is its own
abbrev pub TriesPart : {A : Type 0} → Bool → ℕ → (A → Type 0) → Result A LoadError → Type 0
TriesPart holds place P (Ok x) = (holds ≡ true) × P x
TriesPart holds place P (Err (errors.Unsound p)) = (holds ≡ false) × (p ≡ place)
TriesPart holds place P (Err errors.Memory) = Unit {0}
TriesPart holds place P (Err (errors.BadForm p)) = ⊥
