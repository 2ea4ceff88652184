-- What is read of arguments at a location.
use Rattle.std.proofs.Common.{◌≡◌, ℕ, ◌+◌, ap}
use Rattle.std.specs.Prelude.{Err}
use Rattle.rules_code.specs.instructions.Arguments.{Found, found, fault, and_then}
use Rattle.rules_code.specs.typing.Typing.{Typing, bad, shift, on_found}
use Rattle.mich_outline.specs.Answers.{found_from}
use Rattle.mich_typed.specs.declared.error.CheckError.{CheckError}
use Rattle.mich_typed.specs.declared.error.CheckError.TheVariants as error
use Rattle.mich_control.specs.Answers.{IsFault, IsFound}

-- a fault of what is read first is the fault of the whole
pub found_on : {A B T U : Type 0} (view : T → A) (shown : U → B) (at : ℕ) (f : Found A) (next : A → Found B) (e : CheckError) →
    IsFound view (found_from at f) (Err e) → IsFound shown (found_from at (and_then f next)) (Err e)
found_on view shown at (found x) next (error.IllTyped l) h = absurd cc
found_on view shown at (fault m) next (error.IllTyped l) h =
    let k : at + m ≡ l = cc in
    ap fault k
found_on view shown at f next error.Memory h = tt

-- what is read, or its fault
pub read_as : {A : Type 0} (at : ℕ) (f : Found A) (x : A) → found_from at f ≡ found x → f ≡ found x
read_as at (found y) x h = h
read_as at (fault l) x h = absurd cc

pub found_typing : {A T : Type 0} (view : T → A) (at : ℕ) (f : Found A) (next : A → Typing) (e : CheckError) →
    IsFound view (found_from at f) (Err e) → IsFault (shift at (on_found f next)) e
found_typing view at (found x) next (error.IllTyped l) h = absurd cc
found_typing view at (fault m) next (error.IllTyped l) h =
    let k : at + m ≡ l = cc in
    ap bad k
found_typing view at f next error.Memory h = tt
