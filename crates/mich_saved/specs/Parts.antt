-- The parts of a state that are read, each with its place, and contracts without their storages where these aren't kept.
use Rattle.std.specs.Prelude.{ℕ, ◌==◌, nat_lt, ℤ, Bool, List, length, Option, Some, None, Result, Ok, Err, if◌then◌else◌}
use Rattle.std.specs.Int.{w32, w64}
use Rattle.rules_text.specs.nodes.Tree.{Tree}
use Rattle.rules_text.specs.binary.Reading.{Spot}
use Rattle.rules_data.specs.gas.Kinds.{kinds_by_name}
use Rattle.rules_data.specs.gas.Prices.{Price}
use Rattle.rules_data.specs.types.Kind.{Kind}
use Rattle.rules_data.specs.values.Val.{Val}
use Rattle.rules_world.specs.world.World.{Account}
use Rattle.rules_files.specs.snapshots.State.{Total}
use Rattle.rules_files.specs.snapshots.Reading.{Reader, ◌>>=◌, taken, number_at, signed_at, mark_at, node_at, storage_kind, parts_at, counted_at, magic_of, profile_of, price_at, account_at, total_at, snapshot_limit}
use Rattle.mich_saved.specs.Kept.{kept_at}

-- a part with its place
abbrev pub placed : {A : Type 0} → Reader A → Reader (ℕ × A)
placed part s = do
  x ← part s
  Ok ((s.place, x.0), x.1)

-- a contract, whose storage may not be kept
pub record KeptContract : Type 0 where
  pub balance : ℕ
  pub paid : ℕ
  pub script : Tree
  pub storage : Option Val

abbrev pub kept_storage_by : Option Kind → ℕ → Reader (Option Val)
kept_storage_by None place s = Err place
kept_storage_by (Some a) place s = kept_at a s

unfoldable pub kept_contract_at : Reader (List ℕ × KeptContract)
kept_contract_at s = do
  hash ← taken 20 s
  balance ← number_at w64 hash.1
  paid ← number_at w64 balance.1
  script ← node_at paid.1
  storage ← kept_storage_by (storage_kind script.0) paid.1.place script.1
  Ok ((hash.0, record { balance = balance.0; paid = paid.0; script = script.0; storage = storage.0 }), storage.1)

pub record Head : Type 0 where
  pub chain : List ℕ
  pub level : ℕ
  pub moment : ℤ
  pub pays : Bool
  pub rate : ℕ
  pub groups : ℕ
  pub costs_stood : Bool
  pub started : Bool

-- when and where, behind the bytes that all snapshots begin with
unfoldable pub moment_at : Reader (List ℕ × ℕ × ℤ)
moment_at s = do
  first ← taken 8 s
  head ← magic_of s.place first
  chain ← taken 4 head
  level ← number_at w32 chain.1
  moment ← signed_at w64 level.1
  Ok ((chain.0, level.0, moment.0), moment.1)

unfoldable pub head_at : Reader Head
head_at s = do
  moment ← moment_at s
  pays ← profile_of moment.1.place moment.1.left
  rate ← number_at w64 pays.1
  groups ← number_at w64 rate.1
  costs_stood ← mark_at groups.1
  started ← mark_at costs_stood.1
  Ok (
    record {
      chain = moment.0.0;
      level = moment.0.1;
      moment = moment.0.2;
      pays = pays.0;
      rate = rate.0;
      groups = groups.0;
      costs_stood = costs_stood.0;
      started = started.0;
    },
    started.1,
  )

pub record KeptState : Type 0 where
  pub head : Head
  pub prices : List Price
  pub fees : ℕ
  pub storage_burn : ℕ
  pub accounts : List (ℕ × (List ℕ × Account))
  pub contracts : List (ℕ × (List ℕ × KeptContract))
  pub tickets : List (ℕ × Total)

unfoldable pub kept_state_at : Reader KeptState
kept_state_at s = do
  head ← head_at s
  prices ← parts_at price_at (length kinds_by_name) head.1
  fees ← number_at w64 prices.1
  storage_burn ← number_at w64 fees.1
  accounts ← counted_at (placed account_at) storage_burn.1
  contracts ← counted_at (placed kept_contract_at) accounts.1
  tickets ← counted_at (placed total_at) contracts.1
  Ok (
    record {
      head = head.0;
      prices = prices.0;
      fees = fees.0;
      storage_burn = storage_burn.0;
      accounts = accounts.0;
      contracts = contracts.0;
      tickets = tickets.0;
    },
    tickets.1,
  )

-- a state, and nothing behind it
abbrev pub kept_whole : KeptState × Spot → Result KeptState ℕ
kept_whole s = if length s.1.left == 0 then Ok s.0 else Err s.1.place

-- what is kept of the state that bytes spell, or the place of the first fault
unfoldable pub kept_read : List ℕ → Result KeptState ℕ
kept_read bs = if nat_lt snapshot_limit (length bs) then Err snapshot_limit else (do
  s ← kept_state_at (record { place = 0; left = bs })
  kept_whole s)
