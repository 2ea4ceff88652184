-- How the bytes of a snapshot are read, from left to right. Where a field can't be read, its first byte is the fault's place.
use Rattle.std.specs.Prelude.{ℕ, zero, suc, ◌+◌, ◌-◌, ◌==◌, nat_lt, nat_le, ℤ, Bool, true, false, List, [], ◌∷◌, length, take, Option, Some, None, option_and_then, Result, Ok, Err, if◌then◌else◌}
use Rattle.std.specs.Option.{option_map}
use Rattle.std.specs.Int.{Width, w32, w64, w128, byte_len, from_be_bytes, cast_signed}
use Rattle.std.specs.Str.{bytes_eq}
use Rattle.rules_text.specs.nodes.Limits.{type_limit}
use Rattle.rules_text.specs.nodes.Tree.{Tree, seq, Trees, none, more, prim}
use Rattle.rules_text.specs.nodes.Primitives.{primitive_of_code, primitive_of_name}
use Rattle.rules_text.specs.declared.nodes.Primitive.{Primitive}
use Rattle.rules_text.specs.declared.nodes.Primitive.TheVariants as p
use Rattle.rules_text.specs.binary.Reading.{Spot, past, Fault, decoded}
use Rattle.rules_data.specs.forms.Spelling.{contract_place, is_key_hash}
use Rattle.rules_data.specs.gas.Kinds.{kinds_by_name}
use Rattle.rules_data.specs.gas.Prices.{Price}
use Rattle.rules_data.specs.declared.types.Simple.{Simple}
use Rattle.rules_data.specs.declared.types.Simple.TheVariants as s
use Rattle.rules_data.specs.declared.types.OneArgument.TheVariants as one
use Rattle.rules_data.specs.declared.types.TwoArguments.TheVariants as two
use Rattle.rules_data.specs.types.Kind.{Kind, nodes}
use Rattle.rules_data.specs.types.Kind as k
use Rattle.rules_data.specs.types.Attributes.{storable}
use Rattle.rules_data.specs.types.Reading.{Former, simple_type, one_argument, two_arguments, pair_type, former_of, Reading, a_type, type_at}
use Rattle.rules_data.specs.values.Val.{Val, Vals, no_val, more_vals, Pairs, no_pair, more_pairs}
use Rattle.rules_data.specs.values.Val as v
use Rattle.rules_data.specs.values.Tickets.{Identity}
use Rattle.rules_code.specs.evaluation.Surroundings.{Contract}
use Rattle.rules_world.specs.world.World.{Account}
use Rattle.rules_files.specs.snapshots.State.{State, Total}
use Rattle.rules_files.specs.snapshots.Spelling.{magic}

-- what is read of a spot, and the spot behind it; or the place of the field that can't be read
abbrev pub Reader : Type 0 → Type 0
Reader A = Spot → Result (A × Spot) ℕ

infixl 10 ◌>>=◌
abbrev pub ◌>>=◌ : {A B : Type 0} → Result A ℕ → (A → Result B ℕ) → Result B ℕ
(Ok x) >>= f = f x
(Err place) >>= f = Err place

-- ---- fields

-- so many bytes
unfoldable pub taken : ℕ → Reader (List ℕ)
taken n s = if nat_lt (length s.left) n then Err s.place else Ok (take n s.left, past n s)

unfoldable pub number_at : Width → Reader ℕ
number_at w s = do
  b ← taken (byte_len w) s
  Ok (from_be_bytes w b.0, b.1)

unfoldable pub signed_at : Width → Reader ℤ
signed_at w s = do
  n ← number_at w s
  Ok (cast_signed w n.0, n.1)

-- a byte that is 0 or 1
abbrev pub mark_of : ℕ → List ℕ → Result (Bool × Spot) ℕ
mark_of place [] = Err place
mark_of place (zero ∷ bs) = Ok (false, record { place = place + 1; left = bs })
mark_of place (suc zero ∷ bs) = Ok (true, record { place = place + 1; left = bs })
mark_of place (suc (suc n) ∷ bs) = Err place

unfoldable pub mark_at : Reader Bool
mark_at s = mark_of s.place s.left

-- four bytes of length and so many bytes are one field
abbrev pub field_of : ℕ → ℕ × Spot → Result (List ℕ × Spot) ℕ
field_of place n = if nat_lt (length n.1.left) n.0 then Err place else Ok (take n.0 n.1.left, past n.0 n.1)

unfoldable pub field_at : Reader (List ℕ)
field_at s = do
  n ← number_at w32 s
  field_of s.place n

-- a field whose bytes are the binary form of a node
abbrev pub node_by : Result Tree Fault → ℕ → Spot → Result (Tree × Spot) ℕ
node_by (Ok t) place s = Ok (t, s)
node_by (Err fault) place s = Err place

unfoldable pub node_at : Reader Tree
node_at s = do
  f ← field_at s
  node_by (decoded f.0) s.place f.1

-- ---- values

-- parts one behind the other
abbrev pub both_at : Reader Val → Reader Val → Reader Val
both_at first second s = do
  x ← first s
  y ← second x.1
  Ok (v.both x.0 y.0, y.1)

abbrev pub option_by : Reader Val → Bool → Spot → Result (Val × Spot) ℕ
option_by part false s = Ok (v.nothing, s)
option_by part true s = do
  x ← part s
  Ok (v.some x.0, x.1)

abbrev pub option_at : Reader Val → Reader Val
option_at part s = do
  m ← mark_at s
  option_by part m.0 m.1

abbrev pub or_by : Reader Val → Reader Val → Bool → Spot → Result (Val × Spot) ℕ
or_by part other false s = do
  x ← part s
  Ok (v.left x.0, x.1)
or_by part other true s = do
  x ← other s
  Ok (v.right x.0, x.1)

abbrev pub or_at : Reader Val → Reader Val → Reader Val
or_at part other s = do
  m ← mark_at s
  or_by part other m.0 m.1

abbrev pub vals_at : Reader Val → ℕ → Reader Vals
vals_at item zero s = Ok (no_val, s)
vals_at item (suc n) s = do
  x ← item s
  xs ← vals_at item n x.1
  Ok (more_vals x.0 xs.0, xs.1)

abbrev pub pairs_at : Reader Val → Reader Val → ℕ → Reader Pairs
pairs_at key value zero s = Ok (no_pair, s)
pairs_at key value (suc n) s = do
  x ← key s
  y ← value x.1
  es ← pairs_at key value n y.1
  Ok (more_pairs x.0 y.0 es.0, es.1)

-- a count of items, and these
abbrev pub items_at : (Vals → Val) → Reader Val → Reader Val
items_at made item s = do
  n ← number_at w64 s
  xs ← vals_at item n.0 n.1
  Ok (made xs.0, xs.1)

abbrev pub entries_at : (Pairs → Val) → Reader Val → Reader Val → Reader Val
entries_at made key value s = do
  n ← number_at w64 s
  es ← pairs_at key value n.0 n.1
  Ok (made es.0, es.1)

abbrev pub lambda_at : Reader Val
lambda_at s = do
  recursive ← mark_at s
  t ← node_at recursive.1
  Ok (v.lambda t.0 recursive.0, t.1)

-- a ticket: the 20 bytes of its issuer, its content, whose type is known, and its amount
abbrev pub ticket_at : Kind → Reader Val → Reader Val
ticket_at a content s = do
  issuer ← taken 20 s
  x ← content issuer.1
  amount ← signed_at w128 x.1
  Ok (v.ticket (contract_place issuer.0) a x.0 amount.0, amount.1)

abbrev pub number_value_at : Reader Val
number_value_at s = do
  n ← signed_at w128 s
  Ok (v.number n.0, n.1)

abbrev pub text_at : Reader Val
text_at s = do
  f ← field_at s
  Ok (v.text f.0, f.1)

abbrev pub bytes_at : Reader Val
bytes_at s = do
  f ← field_at s
  Ok (v.bytes f.0, f.1)

abbrev pub truth_at : Reader Val
truth_at s = do
  m ← mark_at s
  Ok (v.truth m.0, m.1)

-- no value can be read
abbrev pub nothing_at : Reader Val
nothing_at s = Err s.place

abbrev pub simple_at : Simple → Reader Val
simple_at s.Unit = λ s. Ok (v.unit, s)
simple_at s.Never = nothing_at
simple_at s.Bool = truth_at
simple_at s.Int = number_value_at
simple_at s.Nat = number_value_at
simple_at s.Mutez = number_value_at
simple_at s.Timestamp = number_value_at
simple_at s.String = text_at
simple_at s.Bytes = bytes_at
simple_at s.Key = bytes_at
simple_at s.KeyHash = bytes_at
simple_at s.Signature = bytes_at
simple_at s.ChainId = bytes_at
simple_at s.Address = bytes_at

-- a value of a type
abbrev pub value_at : Kind → Reader Val
value_at (k.simple s) = simple_at s
value_at k.operation = nothing_at
value_at (k.option a) = option_at (value_at a)
value_at (k.or a b) = or_at (value_at a) (value_at b)
value_at (k.pair a b) = both_at (value_at a) (value_at b)
value_at (k.list a) = items_at v.list (value_at a)
value_at (k.set a) = items_at v.set (value_at a)
value_at (k.map a b) = entries_at v.table (value_at a) (value_at b)
value_at (k.big_map a b) = entries_at v.big_table (value_at a) (value_at b)
value_at (k.lambda a b) = lambda_at
value_at (k.contract a) = nothing_at
value_at (k.ticket a) = ticket_at a (value_at a)

-- ---- types and tickets

-- what a code makes of the types behind it: a comparable type, if it makes one
abbrev pub kind_by : Former → (List ℕ → Option (Kind × List ℕ)) → List ℕ → Option (Kind × List ℕ)
kind_by (simple_type s) next bs = Some (k.simple s, bs)
kind_by (one_argument one.Option) next bs = option_map (λ a. (k.option a.0, a.1)) (next bs)
kind_by (two_arguments two.Or) next bs = option_and_then (λ a. option_map (λ b. (k.or a.0 b.0, b.1)) (next a.1)) (next bs)
kind_by pair_type next bs = option_and_then (λ a. option_map (λ b. (k.pair a.0 b.0, b.1)) (next a.1)) (next bs)
kind_by former next bs = None

-- a comparable type of at most so many levels
abbrev pub kind_within : ℕ → List ℕ → Option (Kind × List ℕ)
kind_within zero bs = None
kind_within (suc n) [] = None
kind_within (suc n) (b ∷ bs) = kind_by (former_of (primitive_of_code b)) (kind_within n) bs

-- how many nodes the type of a ticket's content may have
abbrev pub content_nodes : ℕ
content_nodes = type_limit - 1

-- all bytes of a type are one field
abbrev pub kind_of : Option (Kind × List ℕ) → Spot → Result (Kind × Spot) ℕ
kind_of None s = Err s.place
kind_of (Some a) s = if nat_le (nodes a.0) content_nodes then Ok (a.0, past (nodes a.0) s) else Err s.place

unfoldable pub kind_at : Reader Kind
kind_at s = kind_of (kind_within content_nodes s.left) s

unfoldable pub identity_at : Reader Identity
identity_at s = do
  issuer ← taken 20 s
  kind ← kind_at issuer.1
  content ← value_at kind.0 kind.1
  Ok (record { issuer = contract_place issuer.0; kind = kind.0; content = content.0 }, content.1)

-- ---- the type of a storage

-- a node of a section as a type that can be stored
abbrev pub if_storable : Reading → Option Kind
if_storable (a_type a) = if storable a then Some a else None
if_storable reading = None

abbrev pub one_type : Trees → Option Kind
one_type (more t none) = if_storable (type_at 0 t)
one_type ts = None

abbrev pub in_section : Option Primitive → Trees → Option Kind → Option Kind
in_section (Some p.SectionStorage) args behind = one_type args
in_section name args behind = behind

-- the type in the first `storage` section
abbrev pub first_storage : Trees → Option Kind
first_storage none = None
first_storage (more (prim name annotations args) ts) = in_section (primitive_of_name name) args (first_storage ts)
first_storage (more t ts) = first_storage ts

abbrev pub storage_kind : Tree → Option Kind
storage_kind (seq ts) = first_storage ts
storage_kind t = None

-- ---- parts of a state

-- so many parts
abbrev pub parts_at : {A : Type 0} → Reader A → ℕ → Reader (List A)
parts_at part zero s = Ok ([], s)
parts_at part (suc n) s = do
  x ← part s
  xs ← parts_at part n x.1
  Ok (x.0 ∷ xs.0, xs.1)

-- a count of parts, and these
abbrev pub counted_at : {A : Type 0} → Reader A → Reader (List A)
counted_at part s = do
  n ← number_at w64 s
  parts_at part n.0 n.1

-- bytes that are known
abbrev pub magic_of : ℕ → List ℕ × Spot → Result Spot ℕ
magic_of place b = if bytes_eq b.0 magic then Ok b.1 else Err place

abbrev pub profile_of : ℕ → List ℕ → Result (Bool × Spot) ℕ
profile_of place (suc zero ∷ bs) = Ok (false, record { place = place + 1; left = bs })
profile_of place (suc (suc zero) ∷ bs) = Ok (true, record { place = place + 1; left = bs })
profile_of place bs = Err place

unfoldable pub price_at : Reader Price
price_at s = do
  base ← number_at w32 s
  coefficient ← number_at w32 base.1
  Ok (record { base = base.0; coefficient = coefficient.0 }, coefficient.1)

unfoldable pub holding_at : Reader (Identity × ℤ)
holding_at s = do
  id ← identity_at s
  amount ← signed_at w128 id.1
  Ok ((id.0, amount.0), amount.1)

-- the 21 bytes of a key hash, whose first one is the tag of a curve
abbrev pub key_hash_of : ℕ → List ℕ × Spot → Result (List ℕ × Spot) ℕ
key_hash_of place b = if is_key_hash b.0 then Ok b else Err place

unfoldable pub account_at : Reader (List ℕ × Account)
account_at s = do
  b ← taken 21 s
  who ← key_hash_of s.place b
  balance ← number_at w64 who.1
  holdings ← counted_at holding_at balance.1
  Ok ((who.0, record { balance = balance.0; holdings = holdings.0 }), holdings.1)

-- a storage by its type; of a script without one, its own place is the fault's
abbrev pub storage_by : Option Kind → ℕ → Reader Val
storage_by None place s = Err place
storage_by (Some a) place s = value_at a s

unfoldable pub contract_at : Reader (List ℕ × Contract)
contract_at s = do
  hash ← taken 20 s
  balance ← number_at w64 hash.1
  paid ← number_at w64 balance.1
  script ← node_at paid.1
  storage ← storage_by (storage_kind script.0) paid.1.place script.1
  Ok ((hash.0, record { balance = balance.0; paid = paid.0; script = script.0; storage = storage.0 }), storage.1)

unfoldable pub total_at : Reader Total
total_at s = do
  id ← identity_at s
  minted ← signed_at w128 id.1
  burnt ← signed_at w128 minted.1
  Ok (record { identity = id.0; minted = minted.0; burnt = burnt.0 }, burnt.1)

-- ---- states

unfoldable pub state_at : Reader State
state_at s = do
  first ← taken 8 s
  head ← magic_of s.place first
  chain ← taken 4 head
  level ← number_at w32 chain.1
  moment ← signed_at w64 level.1
  pays ← profile_of moment.1.place moment.1.left
  rate ← number_at w64 pays.1
  groups ← number_at w64 rate.1
  costs_stood ← mark_at groups.1
  started ← mark_at costs_stood.1
  prices ← parts_at price_at (length kinds_by_name) started.1
  fees ← number_at w64 prices.1
  storage_burn ← number_at w64 fees.1
  accounts ← counted_at account_at storage_burn.1
  contracts ← counted_at contract_at accounts.1
  tickets ← counted_at total_at contracts.1
  Ok (
    record {
      chain = chain.0;
      level = level.0;
      moment = moment.0;
      pays = pays.0;
      rate = rate.0;
      groups = groups.0;
      costs_stood = costs_stood.0;
      started = started.0;
      prices = prices.0;
      fees = fees.0;
      storage_burn = storage_burn.0;
      accounts = accounts.0;
      contracts = contracts.0;
      tickets = tickets.0;
    },
    tickets.1,
  )

-- how many bytes a snapshot may have
abbrev pub snapshot_limit : ℕ
snapshot_limit = 1073741823

-- a state, and nothing behind it
abbrev pub whole : State × Spot → Result State ℕ
whole s = if length s.1.left == 0 then Ok s.0 else Err s.1.place

-- the state that bytes spell, or the place of the first fault
unfoldable pub read : List ℕ → Result State ℕ
read bs = if nat_lt snapshot_limit (length bs) then Err snapshot_limit else (do
  s ← state_at (record { place = 0; left = bs })
  whole s)
