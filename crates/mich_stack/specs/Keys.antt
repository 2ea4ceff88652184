-- Comparable values on top of a stack.
use Rattle.std.specs.Prelude.{◌≡◌, true, List, [], ◌∷◌}
use Rattle.rules_data.specs.values.Val.{Val, is_comparable}

abbrev pub IsKeyOnTop : List Val → Type 0
IsKeyOnTop [] = ⊥
IsKeyOnTop (v ∷ V) = is_comparable v ≡ true
