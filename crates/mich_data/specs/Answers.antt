-- What the answers of the calls say.
use Rattle.std.specs.Prelude.{ℕ, ◌+◌, ◌≡◌, Bool, true, false, Option, None, List, Result, Ok, Err, option_map}
use Rattle.std.specs.Borrow.{Bor}
use Rattle.rules_text.specs.nodes.Tree.{Tree, Trees, size, sizes}
use Rattle.rules_data.specs.types.Kind.{Kind}
use Rattle.rules_data.specs.values.Val.{Val, Pairs}
use Rattle.rules_data.specs.values.Literals.{Literal, good, bad, mapped, with_pending, Reader, read, read_rest, read_parts, read_binding, read_entry, read_entries}
use Rattle.rules_data.specs.values.Literals as rules
use Rattle.mich_base.specs.View.{tree}
use Rattle.mich_base.specs.declared.node.Node.{Node}
use Rattle.mich_term.specs.ValueView.{val, pairs}
use Rattle.mich_term.specs.View.{datum}
use Rattle.mich_term.specs.declared.datum.Datum.{Datum}
use Rattle.mich_term.specs.declared.value.Value.{Value}
use Rattle.mich_data.specs.declared.error.ValueError.{ValueError}
use Rattle.mich_data.specs.declared.error.ValueError.TheVariants as error
use Rattle.mich_data.specs.declared.parts.Entry.{Entry}
use Rattle.mich_data.specs.declared.pending.Read.{Read}
use Rattle.mich_data.specs.declared.reading.Reading.{Reading}
use Rattle.mich_data.specs.View.{all_pending}

abbrev pub IsFault : {A : Type 0} → Literal A → ValueError → Type 0
IsFault r (error.NotOfType l) = r ≡ bad l
IsFault r error.Memory = Unit {0}

-- a node read as a literal gives this answer
abbrev pub IsLiteral : Literal Val → Result Read ValueError → Type 0
IsLiteral r (Ok read) = r ≡ good (val read.value) (all_pending read.pending)
IsLiteral r (Err e) = IsFault r e

-- what is read from here, up to a location, gives this answer, and this is how far reading is then
abbrev pub IsTold : {A B : Type 0} → (B → A) → Literal A → ℕ → Reading → Reading → Result B ValueError → Type 0
IsTold view r behind old new (Ok x) = (with_pending (all_pending old.pending) r ≡ good (view x) (all_pending new.pending)) × (new.next ≡ behind)
IsTold view r behind old new (Err e) = IsFault (with_pending (all_pending old.pending) r) e

-- the same of a node
abbrev pub IsFound : Reader → Tree → Reading → Reading → Result Value ValueError → Type 0
IsFound r t old new answer = IsTold val (r old.next t) (old.next + size t) old new answer

-- the same of nodes that make one value
abbrev pub AreFound : (ℕ → Trees → Literal Val) → Trees → Reading → Reading → Result Value ValueError → Type 0
AreFound r ts old new answer = IsTold val (r old.next ts) (old.next + sizes ts) old new answer

-- what is made of what is read
abbrev pub made : {A B T : Type 0} → (A → B) → (ℕ → T → Literal A) → ℕ → T → Literal B
made f r at t = mapped f (r at t)

-- how the parts of a pair are read, where the whole is at this location
abbrev pub pair_of : Kind → Kind → ℕ → ℕ → Trees → Literal Val
pair_of a b whole at ts = read_parts (read a) (read b) (read_rest b whole) whole at ts

-- how the entries of a map are read
abbrev pub all_entries : Kind → Kind → ℕ → Trees → Literal Pairs
all_entries a b at ts = read_entries (read a) (read b) None at ts

-- the value of a key that is told
abbrev pub told : Option (Bor Datum) → Option Val
told o = option_map (λ d. datum d.now) o

abbrev pub entry : Entry → rules.Entry
entry e = record { key = datum e.key; value = val e.value }

-- the same of an entry of a map, behind a key
abbrev pub IsEntry : Kind → Kind → Option Val → Tree → Reading → Reading → Result Entry ValueError → Type 0
IsEntry a b before t old new answer = IsTold entry (read_entry (read a) (read b) before old.next t) (old.next + size t) old new answer

-- the same of its key and value, from the location of the entry
abbrev pub IsBinding : Kind → Kind → Option Val → Bor Node × Bor Node → Reading → Reading → Result Entry ValueError → Type 0
IsBinding a b before nodes old new answer =
    let t = tree nodes.0.now in
    let u = tree nodes.1.now in
    IsTold entry (read_binding (read a) (read b) before old.next t u) (old.next + 1 + size t + size u) old new answer

-- the same of all entries
abbrev pub AreEntries : (ℕ → Trees → Literal Pairs) → Trees → Reading → Reading → Result (List (Datum × Value)) ValueError → Type 0
AreEntries r ts old new answer = IsTold pairs (r old.next ts) (old.next + sizes ts) old new answer

-- whether this value can stand behind the keys before it is told by this key, or by a fault at this location
abbrev pub IsKeyBehind : Bool → Val → ℕ → Result Datum ValueError → Type 0
IsKeyBehind b x at (Ok d) = (b ≡ true) × (datum d ≡ x)
IsKeyBehind b x at (Err (error.NotOfType l)) = (b ≡ false) × (l ≡ at)
IsKeyBehind b x at (Err error.Memory) = Unit {0}
