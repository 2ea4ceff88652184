-- What the answers of the calls say.
use Rattle.std.specs.Prelude.{ℕ, ◌+◌, ◌≡◌, Result, Ok, Err}
use Rattle.rules_code.specs.instructions.Arguments.{Found, found, fault}
use Rattle.mich_outline.specs.declared.error.TypingError.{TypingError}
use Rattle.mich_outline.specs.declared.error.TypingError.TheVariants as error

abbrev pub IsFault : {A : Type 0} → Found A → TypingError → Type 0
IsFault f (error.Fault l) = f ≡ fault l
IsFault f error.Memory = Unit {0}

-- the answer stands for what is found
abbrev pub IsFound : {A T : Type 0} → (T → A) → Found A → Result T TypingError → Type 0
IsFound view f (Ok x) = f ≡ found (view x)
IsFound view f (Err e) = IsFault f e

-- what is found stands behind the call
abbrev pub IsAdded : {A T : Type 0} → Found A → A → Result T TypingError → Type 0
IsAdded f after (Ok u) = f ≡ found after
IsAdded f after (Err e) = IsFault f e

-- the same at a location further on
abbrev pub found_from : {A : Type 0} → ℕ → Found A → Found A
found_from at (found x) = found x
found_from at (fault l) = fault (at + l)
