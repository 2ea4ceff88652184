-- Laws of what big maps stand for.
use Rattle.std.specs.Prelude.{◌≡◌, ◌↔◌, ℕ, true, Some, List}
use Rattle.rules_data.specs.values.Tickets.{tickets}
use Rattle.mich_term.specs.ValueView.{val}
use Rattle.mich_term.specs.declared.value.BigMap.{BigMap}
use Rattle.mich_term.specs.declared.value.Value.{Value, every-Value}
use Rattle.mich_bigmap.specs.Bases.{Bases, entries_in, big_in}
use Rattle.mich_bigmap.specs.Extended.{Extends}
use Rattle.mich_bigmap.specs.Formed.{HasBase, is_there}
use Rattle.mich_bigmap.specs.Kept.{has, kept_of, names}
use Rattle.mich_term.specs.Layers.{AnyLayer, NoBigMap, AreFormed}
use Rattle.mich_bigmap.specs.Layers.{HasBases}
use Rattle.mich_bigmap.specs.Reached.{Reached, AreDistinct}
use Rattle.mich_bigmap.specs.Standing.{val_in}
use Rattle.mich_bigmap.specs.Ticketless.{HoldNoTickets}

-- a big map stays what it is when bases are added
abbrev pub BigMapsStay : Type 0
BigMapsStay = (old new : Bases) (m : BigMap) → Extends old new → HasBase old m → (big_in new m ≡ big_in old m) × HasBase new m

-- each base that was noted is there as before, and has the entries that it had
abbrev pub KeptBasesStand : Type 0
KeptBasesStand = (ns : List ℕ) (bs : Bases) (k : ℕ) → has k ns ≡ true
    → (entries_in (kept_of ns bs) (Some k) ≡ entries_in bs (Some k)) × (is_there (kept_of ns bs) (Some k) ≡ is_there bs (Some k))

-- a value stays what it is when bases are added
abbrev pub ValuesStay : Type 0
ValuesStay = (old new : Bases) (v : Value) → Extends old new → HasBases old v → (val_in new v ≡ val_in old v) × HasBases new v

-- a value without big maps is the same in every store
abbrev pub PlainValuesStand : Type 0
PlainValuesStand = (bs : Bases) (v : Value) → every-Value AnyLayer NoBigMap v → val_in bs v ≡ val v

-- over a store that holds no tickets, a value has the tickets that lie in it
abbrev pub TicketsLieInValues : Type 0
TicketsLieInValues = (bs : Bases) (v : Value) → HoldNoTickets bs → AreFormed v → tickets (val_in bs v) ≡ tickets (val v)

-- a value whose bases were noted stays what it is when the others are given up
abbrev pub KeptValuesStand : Type 0
KeptValuesStand = (bs : Bases) (ns : List ℕ) (v : Value) → HasBases bs v → ((k : ℕ) → has k (names v) ≡ true → is_there bs (Some k) ≡ true → has k ns ≡ true)
    → HasBases (kept_of ns bs) v × (val_in (kept_of ns bs) v ≡ val_in bs v)

-- the bases that are kept are those that are reached from the numbers
abbrev pub KeptAreReached : Type 0
KeptAreReached = (ns : List ℕ) (bs : Bases) (k : ℕ) → AreDistinct bs
    → (is_there (kept_of ns bs) (Some k) ≡ true) ↔ ((is_there bs (Some k) ≡ true) × Reached ns bs k)
