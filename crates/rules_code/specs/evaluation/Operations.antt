-- Operations that code issues, and what is counted while it runs (Octez "operations", internal operations).
use Rattle.std.specs.Prelude.{ℕ, ◌++◌, List, Option, replicate}
use Rattle.std.specs.Int.{w32, w64, to_be_bytes}
use Rattle.rules_text.specs.nodes.Tree.{Tree}
use Rattle.rules_data.specs.types.Kind.{Kind}
use Rattle.rules_data.specs.values.Val.{Val}
use Rattle.rules_data.specs.values.Tickets.{Held, tickets}
use Rattle.rules_code.specs.steps.Changes.{Change}

pub data Operation : Type 0 where
  -- an argument, mutez, and the address that they go to
  transfer : (argument : Val) (amount : ℕ) (destination : List ℕ) → Operation
  -- the key hash of a delegate, if there is one, mutez, a script's node, a storage, and the 20 bytes of the new contract
  origination : (delegate : Option (List ℕ)) (amount : ℕ) (script : Tree) (storage : Val) (hash : List ℕ) → Operation
  -- a tag and a value of a type
  event : (tag : List ℕ) (kind : Kind) (value : Val) → Operation

-- the tickets that an operation has with it
abbrev pub operation_tickets : Operation → List Held
operation_tickets (transfer argument amount destination) = tickets argument
operation_tickets (origination delegate amount script storage hash) = tickets storage
operation_tickets (event tag kind value) = tickets value

-- an operation with its number: how many were issued before it in its group
pub record Issued : Type 0 where
  pub number : ℕ
  pub operation : Operation

-- what goes on while code runs
pub record Tally : Type 0 where
  -- the gas left
  pub gas : ℕ
  -- how many operations, and how many originations among them and the group's own, were issued in the group
  pub operations : ℕ
  pub originations : ℕ
  -- the operations issued in this run, and the changes of tickets in it, each in order
  pub issued : List Issued
  pub changes : List Change

-- The 20 bytes of a new contract: the group's number, how many originations the group had before, and zeros
-- (this host's own choice).
abbrev pub new_contract : ℕ → ℕ → List ℕ
new_contract group index = to_be_bytes w64 group ++ to_be_bytes w32 index ++ replicate 8 0
