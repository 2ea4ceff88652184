-- Laws of worlds before and between groups: new worlds are good, grants keep good worlds good, and groups leave to later groups
-- what these begin with.
use Rattle.std.specs.Prelude.{◌≡◌, ◌≢◌, ◌<◌, ◌^◌, ℕ, ℤ, true, List, [], Some}
use Rattle.rules_data.specs.gas.Prices.{Listed}
use Rattle.rules_data.specs.forms.Spelling.{is_chain_id, is_key_hash}
use Rattle.rules_world.specs.world.Contents.{Content}
use Rattle.rules_world.specs.world.World.{World, new_world}
use Rattle.rules_world.specs.world.Balances.{supply, Granted, granted_to}
use Rattle.rules_world.specs.world.Groups.{Settled, group}
use Rattle.rules_world.specs.world.Forms.{is_moment}
use Rattle.rules_world.specs.world.Good.{IsGood, IsNewGroup}
use Rattle.rules_world.specs.world.Laws.{IsGroup}

-- a good world in which all mutez are those that were granted
pub record IsWhole (w : World) : Type 0 where
  pub good : IsGood w []
  pub mutez : supply w ≡ w.granted

-- a new world is good, and no group has made a contract in it
abbrev pub NewWorldsAreGood : Type 0
NewWorldsAreGood = (chain : List ℕ) (level : ℕ) (moment : ℤ) → is_chain_id chain ≡ true → level < 2 ^ 32 →
    is_moment moment ≡ true →
    IsWhole (new_world chain level moment) × ((number : ℕ) → IsNewGroup number (new_world chain level moment))

-- a grant keeps that
abbrev pub GrantsKeepGood : Type 0
GrantsKeepGood = (w v : World) (who : List ℕ) (mutez : ℕ) → is_key_hash who ≡ true → IsWhole w →
    granted_to w who mutez ≡ Granted v →
    IsWhole v × ((number : ℕ) → IsNewGroup number w → IsNewGroup number v)

-- and so does a group, for groups of other numbers
abbrev pub GroupsKeepWhole : Type 0
GroupsKeepWhole = (prices : Listed) (number : ℕ) (source : List ℕ) (contents : List Content) (w : World) (settled : Settled) →
    IsGroup prices number source contents w → group prices number source contents w ≡ Some settled → supply w ≡ w.granted →
    IsWhole settled.world
    × ((other : ℕ) → other < 2 ^ 64 → other ≢ number → IsNewGroup other w → IsNewGroup other settled.world)
