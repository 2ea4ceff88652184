-- What becomes of a group (Octez "Operations", batches).
use Rattle.std.specs.Prelude.{◌≡◌, ℕ, true, List, [], Option, Some, None, Result, IfOk, MatchResult}
use Rattle.rules_data.specs.forms.Spelling.{implicit_place, is_place}
use Rattle.rules_data.specs.gas.Prices.{Listed}
use Rattle.rules_world.specs.world.Contents.{Content}
use Rattle.rules_world.specs.world.Groups.{Settled, admitted, fees_taken, group, refusal_of, setting_of}
use Rattle.rules_world.specs.world.Laws.{IsGroup}
use Rattle.rules_world.specs.world.Outcomes.{no_counts}
use Rattle.rules_world.specs.world.World.{World as PlainWorld}
use Rattle.mich_ops.specs.Told.{told_receipt}
use Rattle.mich_ops.specs.View.{fault as fault_of, receipt}
use Rattle.mich_ops.specs.declared.receipt.GroupFault.{GroupFault}
use Rattle.mich_ops.specs.declared.receipt.GroupReceipt.{GroupReceipt}
use Rattle.mich_world.specs.Standing.{StandsFor}
use Rattle.mich_world.specs.World.{World}
use Rattle.mich_group.specs.Trees.{Goes}

-- the group comes to an end with this receipt, and the world stands for the one behind it
pub record IsSettled (o : Option Settled) (v : World) (r : GroupReceipt) : Type 0 where
  pub settled : Settled
  pub same : o ≡ Some settled
  pub told : receipt r ≡ told_receipt settled.receipt
  pub stands : StandsFor v settled.world

-- a source's contents are refused so, or they aren't refused
abbrev pub IsAdmitted : World → List ℕ → List Content → Result ℕ GroupFault → Type 0
IsAdmitted v source contents r =
    (w : PlainWorld) → StandsFor v w → is_place (implicit_place source) ≡ true →
    MatchResult r (λ fees. refusal_of w source contents ≡ None) (λ f. refusal_of w source contents ≡ Some (fault_of f))

-- where a good group isn't refused, it begins with its fees taken
abbrev pub TakesFees : {U E : Type 0} → World → List ℕ → List Content → World → Result U E → Type 0
TakesFees v source contents z r =
    (w : PlainWorld) (prices : Listed) (number : ℕ) → StandsFor v w → IsGroup prices number source contents w →
    refusal_of w source contents ≡ None →
    IfOk r (λ _. Goes w (setting_of prices number source) 0 z (fees_taken w source contents) [] no_counts)

-- a group that begins comes to this end
abbrev pub SettlesAdmitted : {E : Type 0} → Listed → ℕ → List ℕ → List Content → World → World → Result GroupReceipt E → Type 0
SettlesAdmitted prices number source contents v z r =
    (start w : PlainWorld) → Goes start (setting_of prices number source) 0 v w [] no_counts →
    IfOk r (IsSettled (admitted (setting_of prices number source) w contents) z)

-- and so does a good group that may be refused
abbrev pub Settles : {E : Type 0} → Listed → ℕ → List ℕ → List Content → World → World → Result GroupReceipt E → Type 0
Settles prices number source contents v z r =
    (w : PlainWorld) → StandsFor v w → IsGroup prices number source contents w →
    IfOk r (IsSettled (group prices number source contents w) z)
