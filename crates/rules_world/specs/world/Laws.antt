-- Laws of groups of operations.
use Rattle.std.specs.Prelude.{◌≡◌, ◌≤◌, ◌<◌, ◌+◌, ◌^◌, ◌-ℤ◌, ℕ, Bool, true, false, List, [], length, Some, IsSome}
use Rattle.std.specs.List.{All, list_any}
use Rattle.rules_text.specs.nodes.Limits.{most_contents}
use Rattle.rules_data.specs.declared.gas.Kind.{Kind}
use Rattle.rules_data.specs.gas.Prices.{Listed, price_of}
use Rattle.rules_data.specs.forms.Spelling.{is_key_hash}
use Rattle.rules_data.specs.values.Tickets.{Identity}
use Rattle.rules_world.specs.world.Contents.{Content}
use Rattle.rules_world.specs.world.Receipts.{GroupFault, Status, Applied, Backtracked, Failed, Skipped, Refused, Done}
use Rattle.rules_world.specs.world.World.{World}
use Rattle.rules_world.specs.world.Balances.{supply, Granted, granted_to}
use Rattle.rules_world.specs.world.Holdings.{held, minted_ever, burnt_ever}
use Rattle.rules_world.specs.world.Groups.{Settled, group, fees_taken}
use Rattle.rules_world.specs.world.Forms.{IsContent}
use Rattle.rules_world.specs.world.Good.{IsGood, IsNewGroup}

-- a group as a statement orders it, in a good world that has no contract of its number
pub record IsGroup (prices : Listed) (number : ℕ) (source : List ℕ) (contents : List Content) (w : World) : Type 0 where
  -- everything costs some gas
  pub costs : (kind : Kind) → 1 ≤ (price_of prices kind).base
  pub small : number < 2 ^ 64
  pub key_hash : is_key_hash source ≡ true
  pub forms : All IsContent contents
  pub few : length contents ≤ most_contents
  pub good : IsGood w []
  pub new : IsNewGroup number w

-- a group of a good world always comes to an end: accepted code is never stuck
abbrev pub GroupsSettle : Type 0
GroupsSettle = (prices : Listed) (number : ℕ) (source : List ℕ) (contents : List Content) (w : World) →
    IsGroup prices number source contents w → IsSome (group prices number source contents w)

-- a good world stays good
abbrev pub GroupsKeepGood : Type 0
GroupsKeepGood = (prices : Listed) (number : ℕ) (source : List ℕ) (contents : List Content) (w : World) (settled : Settled) →
    IsGroup prices number source contents w → group prices number source contents w ≡ Some settled → IsGood settled.world []

-- mutez is conserved: groups move it, and grants alone add to it
abbrev pub GroupsConserveMutez : Type 0
GroupsConserveMutez = (prices : Listed) (number : ℕ) (source : List ℕ) (contents : List Content) (w : World) (settled : Settled) →
    IsGroup prices number source contents w → group prices number source contents w ≡ Some settled → supply settled.world ≡ supply w

abbrev pub GrantsAddMutez : Type 0
GrantsAddMutez = (w v : World) (who : List ℕ) (mutez : ℕ) → IsGood w [] → granted_to w who mutez ≡ Granted v → supply v ≡ supply w + mutez

-- the ticket ledger balances: behind every group all that owners hold is what was minted less what was burnt
abbrev pub TicketsBalance : Type 0
TicketsBalance = (prices : Listed) (number : ℕ) (source : List ℕ) (contents : List Content) (w : World) (settled : Settled) →
    IsGroup prices number source contents w → group prices number source contents w ≡ Some settled →
    (id : Identity) → held settled.world id ≡ minted_ever settled.world id -ℤ burnt_ever settled.world id

-- all or nothing: a group with a content that failed moves its fees and nothing else, and one that is refused nothing at all
abbrev pub is_failed : Status → Bool
is_failed (Applied gas effects) = false
is_failed Backtracked = false
is_failed (Failed count failure) = true
is_failed Skipped = false

abbrev pub FailedGroupsMoveFees : Type 0
FailedGroupsMoveFees = (prices : Listed) (number : ℕ) (source : List ℕ) (contents : List Content) (w v : World) (statuses : List Status) →
    group prices number source contents w ≡ Some (record { receipt = Done statuses; world = v }) → list_any is_failed statuses ≡ true →
    v ≡ fees_taken w source contents

abbrev pub RefusedGroupsMoveNothing : Type 0
RefusedGroupsMoveNothing = (prices : Listed) (number : ℕ) (source : List ℕ) (contents : List Content) (w v : World) (fault : GroupFault) →
    group prices number source contents w ≡ Some (record { receipt = Refused fault; world = v }) → v ≡ w
