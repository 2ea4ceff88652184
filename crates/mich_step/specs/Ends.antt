-- What instructions ask of fitting values besides.
use Rattle.std.specs.Prelude.{◌≡◌, ◌-◌, pos, ◌≤ℤ◌, List, [], ◌∷◌, slice_get, IfSome}
use Rattle.rules_data.specs.values.Val.{Val, number}
use Rattle.rules_data.specs.values.Tickets.{tickets}
use Rattle.rules_code.specs.instructions.Straight.{StackRow, NumberRow}
use Rattle.rules_code.specs.instructions.Straight as i

-- what DUP asks of fitting values besides: what is copied holds no ticket
abbrev pub SuitsStack : StackRow → List Val → Type 0
SuitsStack (i.dup n) V = IfSome (slice_get V (n - 1)) (λ v. tickets v ≡ [])
SuitsStack _ V = Unit {0}

-- what arithmetic asks of fitting values besides: what is shifted, and by how many places, isn't negative
abbrev pub SuitsNumbers : NumberRow → List Val → Type 0
SuitsNumbers i.lsl (number x ∷ number places ∷ V) = (pos 0 ≤ℤ x) × (pos 0 ≤ℤ places)
SuitsNumbers i.lsr (number x ∷ number places ∷ V) = (pos 0 ≤ℤ x) × (pos 0 ≤ℤ places)
SuitsNumbers _ _ = Unit {0}
