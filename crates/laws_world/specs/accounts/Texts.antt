-- The text of a type (Michelson reference, "Types").
use Rattle.std.specs.Prelude.{◌≡◌}
use Rattle.rules_text.specs.text.Printed.{printed}
use Rattle.rules_data.specs.types.Kind.{Kind}
use Rattle.rules_data.specs.types.Printing.{node_of}

-- types that are written alike are one
abbrev pub TextsTellTypes : Type 0
TextsTellTypes = (a b : Kind) → printed (node_of a) ≡ printed (node_of b) → a ≡ b
