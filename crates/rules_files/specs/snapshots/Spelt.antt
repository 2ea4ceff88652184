-- Which values and states have a spelling: numbers fit their bytes, lengths and counts theirs, and each node is the one that
-- its binary form is decoded as.
use Rattle.std.specs.Prelude.{◌≡◌, ◌≤◌, ◌<◌, ◌^◌, ℕ, ℤ, true, List, length, Some, Ok, FitsSigned}
use Rattle.std.specs.Int.{w64, w128}
use Rattle.std.specs.List.{All}
use Rattle.rules_text.specs.nodes.Tree.{Tree}
use Rattle.rules_text.specs.binary.Spelling.{spelling}
use Rattle.rules_text.specs.binary.Reading.{decoded}
use Rattle.rules_code.specs.evaluation.Surroundings.{Contract}
use Rattle.rules_data.specs.forms.Spelling.{contract_place, is_key_hash}
use Rattle.rules_data.specs.gas.Kinds.{kinds_by_name}
use Rattle.rules_data.specs.gas.Prices.{Price}
use Rattle.rules_data.specs.declared.types.Simple.{Simple}
use Rattle.rules_data.specs.declared.types.Simple.TheVariants as s
use Rattle.rules_data.specs.types.Kind.{Kind, nodes}
use Rattle.rules_data.specs.types.Kind as k
use Rattle.rules_data.specs.types.Attributes.{comparable}
use Rattle.rules_data.specs.values.Val.{Val}
use Rattle.rules_data.specs.values.Val as v
use Rattle.rules_data.specs.values.Forms.{AllHave, AllEntriesHave}
use Rattle.rules_data.specs.values.Tickets.{Identity}
use Rattle.rules_world.specs.world.World.{Account}
use Rattle.rules_files.specs.snapshots.State.{State, Total}
use Rattle.rules_files.specs.snapshots.Spelling.{count_vals, count_pairs}
use Rattle.rules_files.specs.snapshots.Reading.{content_nodes, storage_kind}

-- ---- values

abbrev pub IsShort : List ℕ → Type 0
IsShort b = length b < 2 ^ 32

abbrev pub IsNode : Tree → Type 0
IsNode t = IsShort (spelling t) × (decoded (spelling t) ≡ Ok t)

-- the place of a contract
abbrev pub IsIssuer : List ℕ → Type 0
IsIssuer issuer = (hash : List ℕ) × (length hash ≡ 20) × (issuer ≡ contract_place hash)

abbrev pub HasSimpleSpelling : Simple → Val → Type 0
HasSimpleSpelling s.Unit v.unit = Unit {0}
HasSimpleSpelling s.Bool (v.truth b) = Unit {0}
HasSimpleSpelling s.Int (v.number n) = FitsSigned w128 n
HasSimpleSpelling s.Nat (v.number n) = FitsSigned w128 n
HasSimpleSpelling s.Mutez (v.number n) = FitsSigned w128 n
HasSimpleSpelling s.Timestamp (v.number n) = FitsSigned w128 n
HasSimpleSpelling s.String (v.text b) = IsShort b
HasSimpleSpelling s.Bytes (v.bytes b) = IsShort b
HasSimpleSpelling s.Key (v.bytes b) = IsShort b
HasSimpleSpelling s.KeyHash (v.bytes b) = IsShort b
HasSimpleSpelling s.Signature (v.bytes b) = IsShort b
HasSimpleSpelling s.ChainId (v.bytes b) = IsShort b
HasSimpleSpelling s.Address (v.bytes b) = IsShort b
HasSimpleSpelling c x = ⊥

abbrev pub HasSpelling : Kind → Val → Type 0
HasSpelling (k.simple c) x = HasSimpleSpelling c x
HasSpelling (k.option a) v.nothing = Unit {0}
HasSpelling (k.option a) (v.some x) = HasSpelling a x
HasSpelling (k.or a b) (v.left x) = HasSpelling a x
HasSpelling (k.or a b) (v.right x) = HasSpelling b x
HasSpelling (k.pair a b) (v.both x y) = HasSpelling a x × HasSpelling b y
HasSpelling (k.list a) (v.list xs) = (count_vals xs < 2 ^ 64) × AllHave (HasSpelling a) xs
HasSpelling (k.set a) (v.set xs) = (count_vals xs < 2 ^ 64) × AllHave (HasSpelling a) xs
HasSpelling (k.map a b) (v.table es) = (count_pairs es < 2 ^ 64) × AllEntriesHave (HasSpelling a) (HasSpelling b) es
HasSpelling (k.big_map a b) (v.big_table es) = (count_pairs es < 2 ^ 64) × AllEntriesHave (HasSpelling a) (HasSpelling b) es
HasSpelling (k.lambda a b) (v.lambda t recursive) = IsNode t
HasSpelling (k.ticket a) (v.ticket issuer kind content amount) = (kind ≡ a) × IsIssuer issuer × HasSpelling a content × FitsSigned w128 amount
HasSpelling a x = ⊥

-- ---- states

abbrev pub IsEight : ℕ → Type 0
IsEight n = n < 2 ^ 64

abbrev pub IsIdentity : Identity → Type 0
IsIdentity id = IsIssuer id.issuer × (comparable id.kind ≡ true) × (nodes id.kind ≤ content_nodes) × HasSpelling id.kind id.content

abbrev pub IsSpeltPrice : Price → Type 0
IsSpeltPrice p = (p.base < 2 ^ 32) × (p.coefficient < 2 ^ 32)

abbrev pub IsSpeltHolding : Identity × ℤ → Type 0
IsSpeltHolding h = IsIdentity h.0 × FitsSigned w128 h.1

abbrev pub IsSpeltAccount : List ℕ × Account → Type 0
IsSpeltAccount a = (is_key_hash a.0 ≡ true) × IsEight a.1.balance × IsEight (length a.1.holdings) × All IsSpeltHolding a.1.holdings

-- the storage is one of the type in the script's first `storage` section
abbrev pub IsSpeltContract : List ℕ × Contract → Type 0
IsSpeltContract c =
    (length c.0 ≡ 20) × IsEight c.1.balance × IsEight c.1.paid × IsNode c.1.script
    × ((a : Kind) × (storage_kind c.1.script ≡ Some a) × HasSpelling a c.1.storage)

abbrev pub IsSpeltTotal : Total → Type 0
IsSpeltTotal t = IsIdentity t.identity × FitsSigned w128 t.minted × FitsSigned w128 t.burnt

pub record IsSpelt (s : State) : Type 0 where
  pub chain : length s.chain ≡ 4
  pub level : s.level < 2 ^ 32
  pub moment : FitsSigned w64 s.moment
  pub rate : IsEight s.rate
  pub groups : IsEight s.groups
  pub prices : (length s.prices ≡ length kinds_by_name) × All IsSpeltPrice s.prices
  pub fees : IsEight s.fees
  pub storage_burn : IsEight s.storage_burn
  pub accounts : IsEight (length s.accounts) × All IsSpeltAccount s.accounts
  pub contracts : IsEight (length s.contracts) × All IsSpeltContract s.contracts
  pub tickets : IsEight (length s.tickets) × All IsSpeltTotal s.tickets
