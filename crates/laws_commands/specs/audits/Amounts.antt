-- The amounts in receipts.
use Rattle.std.specs.Prelude.{◌≡◌, ℕ, List, Some}
use Rattle.rules_data.specs.gas.Prices.{Listed}
use Rattle.rules_world.specs.world.Contents.{Content}
use Rattle.rules_world.specs.world.World.{World}
use Rattle.rules_world.specs.world.Groups.{Settled, group}
use Rattle.rules_world.specs.world.Laws.{IsGroup}
use Rattle.laws_commands.specs.audits.Receipts.{IsReceipt}

-- all amounts in the receipt of a group are in their ranges
abbrev pub ReceiptsHaveRanges : Type 0
ReceiptsHaveRanges = (prices : Listed) (number : ℕ) (source : List ℕ) (contents : List Content) (w : World) (settled : Settled) →
    IsGroup prices number source contents w → group prices number source contents w ≡ Some settled → IsReceipt settled.receipt
