-- What the readers return, against what reading gives.
use Rattle.std.specs.Prelude.{◌≡◌, ℕ, ◌+◌, ◌<◌, ◌≤◌, List, ◌++◌, length, Result, Ok, Err}
use Rattle.rules_text.specs.binary.Reading.{Fault, Spot}
use Rattle.rules_text.specs.nodes.Limits.{encoded_limit}
use Rattle.rules_text.specs.nodes.Tree.{Tree, Trees}
use Rattle.mich_base.specs.View.{tree, trees}
use Rattle.mich_base.specs.declared.node.Node.{Node}
use Rattle.mich_binary.specs.declared.cursor.Cursor.{Cursor}
use Rattle.mich_binary.specs.declared.errors.DecodeError.{DecodeError}
use Rattle.mich_binary.specs.declared.errors.DecodeError.TheVariants as errors
use Rattle.mich_binary.specs.declared.errors.EncodeError.{EncodeError}
use Rattle.mich_binary.specs.declared.errors.EncodeError.TheVariants as encodes
use Rattle.std.specs.Global.{Vec}
use Rattle.rules_text.specs.binary.Spelling.{joined}
use Rattle.rules_text.specs.binary.Encoding.{Refusal, no_code, too_long}

abbrev pub spot : Cursor → Spot
spot c = record { place = c.place; left = c.left.now }

-- this error is the first fault, unless memory ran out
abbrev pub Fails : {Y : Type 0} → DecodeError → Result Y Fault → Type 0
Fails errors.Memory read = Unit {0}
Fails (errors.Fault kind place) read = read ≡ Err (record { kind = kind; place = place })

-- what a reader returned, seen by view, is what reading gives, unless memory ran out
abbrev pub Gives : {X Y : Type 0} → (X → Y) → Result X DecodeError → Result Y Fault → Type 0
Gives view (Ok x) read = read ≡ Ok (view x)
Gives view (Err e) read = Fails e read

-- a node, or nodes, with where reading goes on
abbrev pub node_seen : Node × Cursor → Tree × Spot
node_seen x = (tree x.0, spot x.1)

abbrev pub nodes_seen : List Node × Cursor → Trees × Spot
nodes_seen x = (trees x.0, spot x.1)

-- ---- encoding

abbrev pub Refuses : EncodeError → Result (List ℕ) Refusal → Type 0
Refuses encodes.Memory given = Unit {0}
Refuses encodes.TooLong given = given ≡ Err too_long
Refuses (encodes.NoCode location) given = given ≡ Err (no_code location)

-- what encoding returned is what it gives, unless memory ran out
abbrev pub IsEncoded : Result (List ℕ) EncodeError → Result (List ℕ) Refusal → Type 0
IsEncoded (Ok bytes) given = given ≡ Ok bytes
IsEncoded (Err e) given = Refuses e given

-- writing so many bytes behind so many is refused
abbrev pub Overflows : ℕ → ℕ → EncodeError → Type 0
Overflows before added encodes.Memory = Unit {0}
Overflows before added encodes.TooLong = encoded_limit < before + added
Overflows before added (encodes.NoCode location) = ⊥

-- bytes were put behind others, within the limit
abbrev pub IsWritten : {U : Type 0} → List ℕ → List ℕ → List ℕ → Result U EncodeError → Type 0
IsWritten before after added (Ok u) = (after ≡ before ++ added) × (length after ≤ encoded_limit)
IsWritten before after added (Err e) = Overflows (length before) (length added) e

abbrev pub IsMemory : EncodeError → Type 0
IsMemory encodes.Memory = Unit {0}
IsMemory encodes.TooLong = ⊥
IsMemory (encodes.NoCode location) = ⊥

-- annotations were joined, unless memory ran out
abbrev pub IsJoined : Result (Vec ℕ) EncodeError → List (List ℕ) → Type 0
IsJoined (Ok v) texts = v.items ≡ joined texts
IsJoined (Err e) texts = IsMemory e
