-- What a source orders in a group (Octez "Operations", manager operations and batches).
use Rattle.std.specs.Prelude.{ℕ, ℤ, List}
use Rattle.rules_text.specs.nodes.Tree.{Tree}

-- `Originate` installs a script with a storage and a balance, `Call` moves mutez to a place and calls an entrypoint there
-- with an argument, `Give` moves tickets to one. Scripts, storages, arguments, types and contents are nodes, places 22 bytes.
pub data Action : Type 0 where
  Originate : (balance : ℕ) (script storage : Tree) → Action
  Call : (amount : ℕ) (destination entrypoint : List ℕ) (argument : Tree) → Action
  Give : (issuer : List ℕ) (kind content : Tree) (amount : ℤ) (destination entrypoint : List ℕ) → Action

-- an action, its fee in mutez, and the gas that it may use
pub record Content : Type 0 where
  pub fee : ℕ
  pub gas : ℤ
  pub action : Action
