-- What is left of the room for the bytes of a line.
use Rattle.std.specs.Prelude.{◌≡◌, ◌<◌, ◌+◌, ℕ, length, List, [], ◌∷◌, Result, Ok, Err}
use Rattle.rules_text.specs.text.Printed.{printed}
use Rattle.rules_data.specs.types.Kind.{Kind}
use Rattle.rules_data.specs.types.Printing.{node_of}
use Rattle.mich_cert.specs.declared.telling.error.LineError.{LineError}
use Rattle.mich_cert.specs.declared.telling.error.LineError.TheVariants as error

-- so much is left of a room, where so many bytes fit there
abbrev pub IsLeft : ℕ → ℕ → Result ℕ LineError → Type 0
IsLeft n room (Ok left) = left + n ≡ room
IsLeft n room (Err error.Long) = room < n
IsLeft n room (Err error.Memory) = Unit {0}

-- how many bytes the types of a stack take at least
abbrev pub stack_weight : List Kind → ℕ
stack_weight [] = 0
stack_weight (a ∷ A) = length (printed (node_of a)) + stack_weight A
