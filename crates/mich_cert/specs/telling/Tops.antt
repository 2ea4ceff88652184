-- The first entry with a type of too many levels, found by the types on top.
use Rattle.std.specs.Prelude.{ℕ, Bool, true, ◌&&◌, if◌then◌else◌, List, [], ◌∷◌, Option, Some, None}
use Rattle.rules_data.specs.types.Kind.{Kind}
use Rattle.rules_code.specs.certificates.Derivation.{Entry, before, end, failing}
use Rattle.rules_code.specs.certificates.Certificates.{is_flat}

-- whether neither of the two types on top has too many levels
abbrev pub tops_are_flat : List Kind → Bool
tops_are_flat [] = true
tops_are_flat (a ∷ []) = is_flat a
tops_are_flat (a ∷ b ∷ A) = is_flat a && is_flat b

-- the types below the two on top
abbrev pub below : List Kind → List Kind
below (a ∷ b ∷ A) = A
below A = []

-- the location of the first entry with a type of too many levels among the two on top
abbrev pub deep_top : List Entry → Option ℕ
deep_top [] = None
deep_top (before l A ∷ es) = if tops_are_flat A then deep_top es else Some l
deep_top (end l A ∷ es) = if tops_are_flat A then deep_top es else Some l
deep_top (failing l ∷ es) = deep_top es
