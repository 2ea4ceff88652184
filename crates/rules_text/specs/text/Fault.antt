-- Faults of a text (Octez "Micheline").
use Rattle.std.specs.Prelude.{ℕ}
use Rattle.rules_text.specs.declared.text.TextKind.{TextKind}

-- a fault, and how many bytes are left at its place
pub record Flaw : Type 0 where
  pub kind : TextKind
  pub left : ℕ
