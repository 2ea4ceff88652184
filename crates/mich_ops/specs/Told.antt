-- What becomes of a group, with failures as they are told: what FAILWITH shows is told by the nodes of its type and its literal.
use Rattle.std.specs.Prelude.{ℕ, List, map}
use Rattle.rules_text.specs.nodes.Tree.{Tree}
use Rattle.rules_data.specs.types.Printing.{node_of}
use Rattle.rules_data.specs.values.Canonical.{canonical}
use Rattle.rules_code.specs.steps.Failure.{Failure, failed_with}
use Rattle.rules_world.specs.world.Receipts.{GroupFault, Effect}
use Rattle.rules_world.specs.world.Receipts as rules

-- FAILWITH with the nodes of a type and a literal, or another failure
pub data Told : Type 0 where
  shown : (kind value : Tree) → Told
  plain : Failure → Told

abbrev pub told : Failure → Told
told (failed_with a v) = shown (node_of a) (canonical v)
told failure = plain failure

pub data ToldStatus : Type 0 where
  Applied : (gas : ℕ) (effects : List Effect) → ToldStatus
  Backtracked : ToldStatus
  Failed : (count : ℕ) (failure : Told) → ToldStatus
  Skipped : ToldStatus

abbrev pub told_status : rules.Status → ToldStatus
told_status (rules.Applied gas effects) = Applied gas effects
told_status rules.Backtracked = Backtracked
told_status (rules.Failed count failure) = Failed count (told failure)
told_status rules.Skipped = Skipped

pub data ToldReceipt : Type 0 where
  Refused : GroupFault → ToldReceipt
  Done : List ToldStatus → ToldReceipt

abbrev pub told_receipt : rules.Receipt → ToldReceipt
told_receipt (rules.Refused fault) = Refused fault
told_receipt (rules.Done statuses) = Done (map told_status statuses)
