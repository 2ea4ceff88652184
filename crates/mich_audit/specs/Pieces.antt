-- A text, cut at its line feeds.
use Rattle.std.specs.Prelude.{◌≡◌, ◌≢◌, ◌<◌, ◌==◌, ℕ, Bool, if◌then◌else◌, List, [], ◌∷◌, ◌++◌, length, slice_index, Some, None}
use Rattle.std.specs.declared.option.Option.{Option}
use Rattle.rules_audit.specs.Form.{unfinished}

-- the pieces of bytes, the first of which is begun, and behind which others stand or none
abbrev pub cut : Bool → List ℕ → List ℕ → List (Option (List ℕ))
cut longer begun [] = if longer then None ∷ [] else unfinished begun
cut longer begun (c ∷ cs) = if c == 10 then Some begun ∷ cut longer [] cs else cut longer (begun ++ c ∷ []) cs

abbrev pub HasNoFeed : List ℕ → Type 0
HasNoFeed bytes = (k : ℕ) → k < length bytes → slice_index bytes k ≢ 10

-- the first line feed stands here
abbrev pub IsFirstFeed : List ℕ → ℕ → Type 0
IsFirstFeed bytes end = (end < length bytes) × (slice_index bytes end ≡ 10) × ((k : ℕ) → k < end → slice_index bytes k ≢ 10)
