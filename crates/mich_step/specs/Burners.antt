-- What discarding leaves of a burner.
use Rattle.std.specs.Prelude.{◌++◌, List}
use Rattle.rules_data.specs.values.Tickets.{Held}

-- a burner that was ready for these tickets and others is still ready for the others, now that these are burnt
abbrev pub StaysReady : {S : Type 0} → (S → List Held → Type 0) → S → S → List Held → Type 0
StaysReady ready old new burnt = (l : List Held) → ready old (burnt ++ l) → ready new l
