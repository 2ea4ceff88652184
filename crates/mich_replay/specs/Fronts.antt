-- A file that is read no further than its bytes count.
use Rattle.std.specs.Prelude.{◌≡◌, ℕ, ◌≤◌, List, [], ◌++◌, length, Option, Some, None}
use Rattle.rules_text.specs.nodes.Limits.{file_limit}

-- these follow what was read: none where the file isn't longer than it may be
abbrev pub IsRest : List ℕ → List ℕ → Type 0
IsRest read more = length read ≤ file_limit → more ≡ []

-- what was read of a file that holds this
abbrev pub IsReadOf : Option (List ℕ) → List ℕ → Type 0
IsReadOf None read = Unit {0}
IsReadOf (Some content) read = (more : List ℕ) × (content ≡ read ++ more) × IsRest read more
