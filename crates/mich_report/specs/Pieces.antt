-- Pieces of lines: what stands between elements of a sequence, and arguments.
use Rattle.std.specs.Prelude.{ℕ, Bool, true, false, List, [], ◌∷◌}
use Rattle.rules_text.specs.nodes.Tree.{Tree}
use Rattle.rules_text.specs.text.Printed.{in_parens, is_wrapped, printed}

-- before the first a space, and before each other its sign
abbrev pub separator : Bool → List ℕ
separator false = 32 ∷ []
separator true = 32 ∷ 59 ∷ 32 ∷ []

-- a node as an argument, behind its space
abbrev pub field : Tree → List ℕ
field t = 32 ∷ in_parens (is_wrapped t) (printed t)
