-- How far a file has come, and what its next statement does to that (this host's own).
use Rattle.std.specs.Prelude.{ℕ, ◌+◌, nat_lt, Bool, true, false, ◌&&◌, is_none, ℤ, int_le, List, [], ◌∷◌, Option, Some, None, Result, Ok, Err, if◌then◌else◌}
use Rattle.rules_text.specs.nodes.Tree.{Tree}
use Rattle.rules_data.specs.gas.Prices.{Listed, nothing_listed}
use Rattle.rules_data.specs.gas.Tables.{table_of}
use Rattle.rules_world.specs.world.Contents.{Content}
use Rattle.rules_world.specs.world.Receipts.{Receipt}
use Rattle.rules_world.specs.world.World.{World, new_world}
use Rattle.rules_world.specs.world.Balances.{Grant, Granted, Repeated, TooMuch, granted_to}
use Rattle.rules_world.specs.world.Groups.{Settled, group}
use Rattle.rules_files.specs.statements.Statements.{Statement, Chain, Profile, Costs, Account, Block, Group}

-- why a statement is refused where it stands: it can't stand there; a table of prices has a bad row; an account is there already;
-- or more mutez would be granted than there may be
pub data Refusal : Type 0 where
  BadOrder : Refusal
  BadCosts : Refusal
  RepeatedAccount : Refusal
  SupplyLimit : Refusal

-- the world, the prices, how many groups there were, and whether nothing stood but the chain and a profile
pub record Course : Type 0 where
  pub world : World
  pub prices : Listed
  pub groups : ℕ
  pub at_head : Bool

abbrev pub started : List ℕ → ℕ → ℤ → Course
started chain level moment = record { world = new_world chain level moment; prices = nothing_listed; groups = 0; at_head = true }

-- with another world, behind a statement that is neither the chain nor a profile
abbrev pub onward : Course → World → Course
onward c w = record c { world = w; at_head = false }

-- What a statement comes to: a receipt where it is a group, or a refusal. A group without an outcome comes in no good world.
pub data Step : Type 0 where
  goes_on : Course → List Receipt → Step
  stops : Refusal → Step
  stuck_step : Step

-- ---- the rate of storage: a profile stands directly behind the chain

abbrev pub with_rate : Course → ℕ → Course
with_rate c rate = record c { world = record (c.world) { rate = Some rate } }

abbrev pub profile_step : Course → ℕ → Step
profile_step c rate = if c.at_head && is_none c.world.rate then goes_on (with_rate c rate) [] else stops BadOrder

-- ---- prices: a table stands at most once, and before all accounts, blocks and groups

abbrev pub with_prices : Course → Result Listed ℕ → Step
with_prices c (Ok prices) = goes_on (record c { prices = prices; at_head = false }) []
with_prices c (Err location) = stops BadCosts

abbrev pub costs_step : Bool → Course → Tree → Step
costs_step true c table = with_prices c (table_of table)
costs_step false c table = stops BadOrder

-- ---- accounts

abbrev pub granting : Course → Grant → Step
granting c (Granted w) = goes_on (onward c w) []
granting c Repeated = stops RepeatedAccount
granting c TooMuch = stops SupplyLimit

-- ---- blocks: each is above the one before, and not earlier

abbrev pub is_later : World → ℕ → ℤ → Bool
is_later w level moment = nat_lt w.level level && int_le w.moment moment

abbrev pub timed : Course → ℕ → ℤ → Course
timed c level moment = onward c (record (c.world) { level = level; moment = moment })

abbrev pub block_step : Course → ℕ → ℤ → Step
block_step c level moment = if is_later c.world level moment then goes_on (timed c level moment) [] else stops BadOrder

-- ---- groups, numbered from 1, refused ones too

abbrev pub numbered : Course → Option Settled → Step
numbered c (Some settled) = goes_on (record (onward c settled.world) { groups = c.groups + 1 }) (settled.receipt ∷ [])
numbered c None = stuck_step

abbrev pub group_step : Course → List ℕ → List Content → Step
group_step c source contents = numbered c (group c.prices (c.groups + 1) source contents c.world)

-- ---- all statements: the chain stands first, and once

abbrev pub step_behind : Course → Statement → Step
step_behind c (Chain id level moment) = stops BadOrder
step_behind c (Profile rate) = profile_step c rate
step_behind c (Costs table) = costs_step c.at_head c table
step_behind c (Account who mutez) = granting c (granted_to c.world who mutez)
step_behind c (Block level moment) = block_step c level moment
step_behind c (Group source contents) = group_step c source contents

abbrev pub first_step : Statement → Step
first_step (Chain id level moment) = goes_on (started id level moment) []
first_step (Profile rate) = stops BadOrder
first_step (Costs table) = stops BadOrder
first_step (Account who mutez) = stops BadOrder
first_step (Block level moment) = stops BadOrder
first_step (Group source contents) = stops BadOrder
