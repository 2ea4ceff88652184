-- What becomes of a group of operations (Octez "Operations", the results in receipts).
use Rattle.std.specs.Prelude.{ℕ, ℤ, List}
use Rattle.rules_text.specs.nodes.Tree.{Tree}
use Rattle.rules_code.specs.steps.Changes.{Change}
use Rattle.rules_code.specs.steps.Failure.{Failure}

-- Why a group is refused: its source is no account, the gas of a content is over the limit, or the fees are together over
-- the source's balance.
pub data GroupFault : Type 0 where
  UnknownSource : GroupFault
  GasTooHigh : GroupFault
  FeeTooHigh : GroupFault

-- What an operation did. Senders, issuers and contracts are places, destinations addresses with their entrypoint;
-- arguments, types and contents are the nodes that are written. Changes of tickets are those of the run that it began. Behind
-- what an operation did to a contract that grew stands by how many bytes, and the mutez that were burnt for them.
pub data Effect : Type 0 where
  Transfer : (sender destination : List ℕ) (amount : ℕ) (argument : Tree) (changes : List Change) → Effect
  Give : (sender destination issuer : List ℕ) (kind content : Tree) (amount : ℤ) (changes : List Change) → Effect
  Origination : (sender address : List ℕ) (amount : ℕ) → Effect
  Event : (sender tag : List ℕ) (kind value : Tree) → Effect
  Storage : (address : List ℕ) (bytes burn : ℕ) → Effect

-- A content that was applied, with the gas that it used and its effects in order; one before the one that failed; the one that
-- failed, behind so many operations of its own; or one behind it.
pub data Status : Type 0 where
  Applied : (gas : ℕ) (effects : List Effect) → Status
  Backtracked : Status
  Failed : (count : ℕ) (failure : Failure) → Status
  Skipped : Status

-- a group that was refused, or the status of each of its contents
pub data Receipt : Type 0 where
  Refused : GroupFault → Receipt
  Done : List Status → Receipt
