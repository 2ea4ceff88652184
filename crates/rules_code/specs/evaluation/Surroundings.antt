-- What a run sees of the world in which it began, after its mutez moved.
use Rattle.std.specs.Prelude.{ℕ, ℤ, List, Option}
use Rattle.rules_text.specs.nodes.Tree.{Tree}
use Rattle.rules_data.specs.gas.Prices.{Listed}
use Rattle.rules_data.specs.values.Val.{Val}
use Rattle.rules_data.specs.values.Tickets.{Identity}
use Rattle.rules_code.specs.instructions.Context.{Context}
use Rattle.rules_code.specs.steps.Environment.{Environment}

-- a contract: its balance, for how many bytes it has paid, the node of its script, and its storage
pub record Contract : Type 0 where
  pub balance : ℕ
  pub paid : ℕ
  pub script : Tree
  pub storage : Val

pub record Surroundings : Type 0 where
  -- what instructions read of where and for whom the code runs
  pub environment : Environment
  -- the number of the group that the operation is of
  pub group : ℕ
  -- where the code stands: in a contract's `code`, in a view or in a lambda
  pub context : Context
  -- the table of prices
  pub prices : Listed
  -- the contract of these 20 bytes, if there is one
  pub contract_at : List ℕ → Option Contract
  -- the amount of tickets of an identity that was ever minted before the run
  pub minted : Identity → ℤ
