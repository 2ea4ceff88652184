-- What a snapshot keeps of a file that was replayed (this host's own).
use Rattle.std.specs.Prelude.{ℕ, ℤ, Bool, List}
use Rattle.rules_data.specs.gas.Prices.{Price}
use Rattle.rules_data.specs.values.Tickets.{Identity}
use Rattle.rules_code.specs.evaluation.Surroundings.{Contract}
use Rattle.rules_world.specs.world.World.{Account}

-- a ticket: what was ever minted of it, and what was burnt
pub record Total : Type 0 where
  pub identity : Identity
  pub minted : ℤ
  pub burnt : ℤ

pub record State : Type 0 where
  pub chain : List ℕ
  pub level : ℕ
  pub moment : ℤ
  -- whether storage is paid for, and what a byte of it costs
  pub pays : Bool
  pub rate : ℕ
  -- how many groups there were
  pub groups : ℕ
  -- whether a `Costs` stood, and whether an `Account`, `Block` or `Group` did
  pub costs_stood : Bool
  pub started : Bool
  -- the price of each kind of cost, in the order of the kinds' names
  pub prices : List Price
  pub fees : ℕ
  -- what was burnt for storage
  pub storage_burn : ℕ
  -- the accounts with their key hashes, and the contracts with their 20 bytes
  pub accounts : List (List ℕ × Account)
  pub contracts : List (List ℕ × Contract)
  pub tickets : List Total
