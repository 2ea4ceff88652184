-- The outline of a script where it stands.
use Rattle.std.specs.Prelude.{ℕ, ◌+◌}
use Rattle.rules_text.specs.nodes.Tree.{Tree, seq}
use Rattle.rules_code.specs.instructions.Arguments.{Found, fault}
use Rattle.rules_code.specs.typing.Scripts.{Outline, outline_of}
use Rattle.rules_code.specs.typing.Nodes.{sections}

-- the types of the script at a location, whose bodies aren't tried, or the location of their first fault
abbrev pub outline_at : ℕ → Tree → Found Outline
outline_at at (seq ts) = outline_of at (sections ts (at + 1))
outline_at at t = fault at
