-- What the lines of a run tell of a ticket, all together.
use Rattle.std.specs.Prelude.{◌≡◌, pos, true, List, []}
use Rattle.rules_data.specs.values.Val.{is_comparable}
use Rattle.rules_data.specs.values.Tickets.{Identity}
use Rattle.rules_world.specs.world.Receipts.{Receipt}
use Rattle.rules_world.specs.world.World.{World}
use Rattle.rules_world.specs.world.Good.{IsGood}
use Rattle.rules_world.specs.world.Holdings.{held, minted_ever, burnt_ever}
use Rattle.rules_audit.specs.Verdicts.{all_parts, total}
use Rattle.rules_audit.specs.Fields.{Sort, Part}
use Rattle.laws_commands.specs.audits.ToldLines.{identity_of, told_lines}
use Rattle.laws_commands.specs.audits.Changes.{BurnsAtRate}
use Rattle.laws_commands.specs.audits.FileLogs.{receipts_changes}
use Rattle.laws_commands.specs.audits.Follows.{IsPlainWorld}

-- receipts, and a good world behind them whose log they tell
pub record IsBehind (rs : List Receipt) (w : World) : Type 0 where
  pub good : IsGood w []
  pub plain : IsPlainWorld w
  pub log : w.log ≡ receipts_changes rs
  pub burns : BurnsAtRate w

abbrev pub parts_of : List Receipt → World → List Part
parts_of rs w = all_parts (told_lines rs w)

-- of each ticket as much is told as was minted, burnt and is held
abbrev pub TotalsAreTold : Type 0
TotalsAreTold = (rs : List Receipt) (w : World) (id : Identity) → IsBehind rs w → is_comparable id.content ≡ true →
    (pos (total Sort.minted (identity_of id) (parts_of rs w)) ≡ minted_ever w id)
    × (pos (total Sort.burnt (identity_of id) (parts_of rs w)) ≡ burnt_ever w id)
    × (pos (total Sort.held (identity_of id) (parts_of rs w)) ≡ held w id)
