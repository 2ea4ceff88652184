-- What the readers return, against what reading gives.
use Rattle.std.specs.Prelude.{◌≡◌, ℕ, Result, Ok, Err}
use Rattle.rules_text.specs.binary.Reading.{Spot}
use Rattle.mich_saved.specs.declared.cursor.Cursor.{Cursor}
use Rattle.mich_saved.specs.declared.errors.LoadError.{LoadError}
use Rattle.mich_saved.specs.declared.errors.LoadError.TheVariants as errors

abbrev pub spot : Cursor → Spot
spot c = record { place = c.place; left = c.left.now }

-- this error is the first fault, unless memory ran out
abbrev pub Fails : {Y : Type 0} → LoadError → Result Y ℕ → Type 0
Fails errors.Memory read = Unit {0}
Fails (errors.BadForm place) read = read ≡ Err place
Fails (errors.Unsound place) read = ⊥

-- what a reader returned, seen by view, is what reading gives, unless memory ran out
abbrev pub Gives : {X Y : Type 0} → (X → Y) → Result X LoadError → Result Y ℕ → Type 0
Gives view (Ok x) read = read ≡ Ok (view x)
Gives view (Err e) read = Fails e read
