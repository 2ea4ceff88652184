-- What is read of a snapshot stands in the bytes as it is spelt, and what has a spelling is read from it.
use Rattle.std.specs.Prelude.{◌≡◌, ◌≤◌, ◌+◌, ℕ, true, List, ◌++◌, length, map, Some, Ok}
use Rattle.std.specs.List.{flat_map}
use Rattle.std.specs.List.Sorted.{IsStrictlySortedBy}
use Rattle.std.specs.Map.{keys_of}
use Rattle.rules_text.specs.binary.Reading.{Spot}
use Rattle.rules_data.specs.types.Kind.{Kind}
use Rattle.rules_data.specs.values.Val.{Val}
use Rattle.rules_world.specs.world.World.{World, identity_order}
use Rattle.rules_world.specs.world.Good.{FitsIn}
use Rattle.rules_files.specs.snapshots.State.{State}
use Rattle.rules_files.specs.snapshots.Spelling.{value_spelling, state_spelling}
use Rattle.rules_files.specs.snapshots.Spelt.{HasSpelling, IsSpelt}
use Rattle.rules_files.specs.snapshots.Reading.{value_at, snapshot_limit, read}
use Rattle.rules_files.specs.snapshots.Rules.{is_stored, byte_order, parts, is_sound}
use Rattle.rules_files.specs.snapshots.Loading.{loaded, saved}
use Rattle.laws_data.specs.binary.Laws.{IsBytes}

-- reading took this text, and went on behind it
abbrev pub Takes : Spot → List ℕ → Spot → Type 0
Takes s text after = (s.left ≡ text ++ after.left) × (after.place ≡ s.place + length text)

-- a value that is read is spelt by the bytes that were taken
abbrev pub ValuesAreSpelt : Type 0
ValuesAreSpelt = (a : Kind) (s after : Spot) (x : Val) → IsBytes s.left → value_at a s ≡ Ok (x, after) → Takes s (value_spelling x) after

-- bytes that are read as a state are its spelling
abbrev pub StatesAreSpelt : Type 0
StatesAreSpelt = (bs : List ℕ) (s : State) → IsBytes bs → read bs ≡ Ok s → bs ≡ state_spelling s

-- no two lists of bytes are read as one state
abbrev pub OneSpelling : Type 0
OneSpelling = (bs cs : List ℕ) (s : State) → IsBytes bs → IsBytes cs → read bs ≡ Ok s → read cs ≡ Ok s → bs ≡ cs

-- a state that has a spelling is read from it, where it isn't too long for a snapshot
abbrev pub SpeltAreRead : Type 0
SpeltAreRead = (s : State) → IsSpelt s → length (state_spelling s) ≤ snapshot_limit → read (state_spelling s) ≡ Ok s

-- a state that is read has a spelling
abbrev pub ReadHaveSpelling : Type 0
ReadHaveSpelling = (bs : List ℕ) (s : State) → IsBytes bs → read bs ≡ Ok s → IsSpelt s

-- the parts whose rules are tried are those of the spelling, so that their places are places in the bytes
abbrev pub PartsAreTheSpelling : Type 0
PartsAreTheSpelling = (s : State) → flat_map (λ p. p.text) (parts s) ≡ state_spelling s

-- a sound state that is saved is loaded again
abbrev pub SavedAreLoaded : Type 0
SavedAreLoaded = (s : State) (bs : List ℕ) → IsSpelt s → is_sound s ≡ true → saved s ≡ Some bs → length bs ≤ snapshot_limit → loaded bs ≡ Ok s

-- a state that is loaded has a spelling, which is the bytes, and is sound
abbrev pub LoadedAreSound : Type 0
LoadedAreSound = (bs : List ℕ) (s : State) → IsBytes bs → loaded bs ≡ Ok s → (bs ≡ state_spelling s) × IsSpelt s × (is_sound s ≡ true)

-- a value that has a spelling and passes the test has its type in every world
abbrev pub StoredFit : Type 0
StoredFit = (w : World) (a : Kind) (x : Val) → HasSpelling a x → is_stored a x ≡ true → FitsIn w a x

-- accounts, contracts and tickets of a sound state stand once, in their order
abbrev pub SoundAreInOrder : Type 0
SoundAreInOrder = (s : State) → is_sound s ≡ true
    → IsStrictlySortedBy byte_order (keys_of s.accounts) × IsStrictlySortedBy byte_order (keys_of s.contracts)
    × IsStrictlySortedBy identity_order (map (λ t. t.identity) s.tickets)
