-- The lines of groups, whose amounts are in their ranges.
use Rattle.std.specs.Prelude.{◌≡◌, ◌≤◌, ◌^◌, ◌-◌, ℕ, pos, true, map, Some}
use Rattle.std.specs.List.{AllByRecursion}
use Rattle.rules_data.specs.forms.Spelling.{is_place}
use Rattle.rules_data.specs.values.Forms.{is_ticket_amount}
use Rattle.rules_world.specs.world.Forms.{IsChange}
use Rattle.rules_world.specs.world.Receipts.{Effect, Transfer, Give, Origination, Event, Storage, Status, Applied, Backtracked, Failed, Skipped, Receipt, Refused, Done}
use Rattle.rules_world.specs.lines.Nodes.{group_node}
use Rattle.rules_audit.specs.Lines.{group, line_of}
use Rattle.laws_commands.specs.audits.Changes.{receipt_changes}
use Rattle.laws_commands.specs.audits.ToldLines.{change_part}

abbrev pub IsAmount : ℕ → Type 0
IsAmount n = n ≤ 2 ^ 127 - 1

abbrev pub IsEffect : Effect → Type 0
IsEffect (Transfer sender destination amount argument changes) = IsAmount amount × AllByRecursion IsChange changes
IsEffect (Give sender destination issuer kind content amount changes) =
    (is_place issuer ≡ true) × (is_ticket_amount amount ≡ true) × AllByRecursion IsChange changes
IsEffect (Origination sender address amount) = IsAmount amount
IsEffect (Event sender tag kind value) = Unit {0}
IsEffect (Storage address bytes burn) = IsAmount burn

abbrev pub IsStatus : Status → Type 0
IsStatus (Applied gas effects) = AllByRecursion IsEffect effects
IsStatus Backtracked = Unit {0}
IsStatus (Failed count failure) = Unit {0}
IsStatus Skipped = Unit {0}

abbrev pub IsReceipt : Receipt → Type 0
IsReceipt (Refused fault) = Unit {0}
IsReceipt (Done statuses) = AllByRecursion IsStatus statuses

-- the line of a group tells the changes of its receipt, in their order, and no others
abbrev pub GroupLinesAreTold : Type 0
GroupLinesAreTold = (n : ℕ) (r : Receipt) → IsReceipt r → line_of (group_node n r) ≡ Some (group (pos n) (map change_part (receipt_changes r)))
