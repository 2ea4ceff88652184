-- What is still to be tried of a literal.
use Rattle.std.specs.Prelude.{◌≡◌, ℕ, ◌<◌, ◌^◌, List, [], ◌∷◌, Option, Some, None}
use Rattle.rules_text.specs.nodes.Tree.{seq, size}
use Rattle.rules_data.specs.values.Literals.{Pending, body, claim}
use Rattle.mich_control.specs.Answers.{inside}

-- bodies are sequences of fewer than 2^32 nodes
abbrev pub AreBodies : List Pending → Type 0
AreBodies [] = Unit {0}
AreBodies (body l a r recursive t ∷ ps) = (t ≡ seq (inside t)) × (size t < 2 ^ 32) × AreBodies ps
AreBodies (claim l b a ∷ ps) = AreBodies ps

-- a value, unless there is a fault
abbrev pub unless : {A : Type 0} → Option ℕ → A → Option A
unless None x = Some x
unless (Some l) x = None
