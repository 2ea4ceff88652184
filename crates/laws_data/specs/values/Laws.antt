-- The laws of literals (Michelson reference, "PACK" and "UNPACK").
use Rattle.std.specs.Prelude.{ℕ, ◌≡◌, []}
use Rattle.rules_data.specs.types.Kind.{Kind}
use Rattle.rules_data.specs.values.Val.{Val, Vals, no_val, more_vals, Pairs, no_pair, more_pairs}
use Rattle.rules_data.specs.values.Val as v
use Rattle.rules_data.specs.values.Tickets.{tickets}
use Rattle.rules_data.specs.values.Literals.{Literal, good, bad, read}
use Rattle.rules_data.specs.values.Canonical.{canonical}
use Rattle.rules_data.specs.values.Forms.{HasForm}
use Rattle.laws_data.specs.types.Laws.{IsWellFormed}

abbrev mutual
  -- no operation is in a value
  pub HoldsNoOperation : Val → Type 0
  HoldsNoOperation (v.some x) = HoldsNoOperation x
  HoldsNoOperation (v.left x) = HoldsNoOperation x
  HoldsNoOperation (v.right x) = HoldsNoOperation x
  HoldsNoOperation (v.both x y) = HoldsNoOperation x × HoldsNoOperation y
  HoldsNoOperation (v.list xs) = HoldNoOperation xs
  HoldsNoOperation (v.set xs) = HoldNoOperation xs
  HoldsNoOperation (v.table es) = EntriesHoldNoOperation es
  HoldsNoOperation (v.big_table es) = EntriesHoldNoOperation es
  HoldsNoOperation (v.operation n) = ⊥
  HoldsNoOperation x = Unit {0}

  pub HoldNoOperation : Vals → Type 0
  HoldNoOperation no_val = Unit {0}
  HoldNoOperation (more_vals x xs) = HoldsNoOperation x × HoldNoOperation xs

  pub EntriesHoldNoOperation : Pairs → Type 0
  EntriesHoldNoOperation no_pair = Unit {0}
  EntriesHoldNoOperation (more_pairs x y es) = HoldsNoOperation x × HoldsNoOperation y × EntriesHoldNoOperation es

-- this value is read
abbrev pub Gives : Literal Val → Val → Type 0
Gives (good x ps) y = x ≡ y
Gives (bad l) y = ⊥

-- a value that has the form of a type, and holds no ticket and no operation, is read again from its canonical literal
abbrev pub ReadAgain : Type 0
ReadAgain = (a : Kind) (x : Val) (at : ℕ) → IsWellFormed a → HasForm a x → tickets x ≡ [] → HoldsNoOperation x → Gives (read a at (canonical x)) x
