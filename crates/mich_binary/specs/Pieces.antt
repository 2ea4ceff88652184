-- The pieces between spaces, one by one.
use Rattle.std.specs.Prelude.{ℕ, List, [], Bool, not, ◌==◌, Option, Some, None}
use Rattle.rules_text.specs.binary.Reading.{pieces}

abbrev pub is_no_space : ℕ → Bool
is_no_space b = not (b == 32)

-- the pieces of what is left, if anything is
abbrev pub pieces_of : Option (List ℕ) → List (List ℕ)
pieces_of None = []
pieces_of (Some bs) = pieces bs
