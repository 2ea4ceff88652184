-- What a world that a file reaches must have beside its being good, so that its state can be kept: contracts are of groups that there
-- were, nodes can be written, lists can be counted, and each ticket that was minted is one of a contract.
use Rattle.std.specs.Prelude.{◌≡◌, ◌≤◌, ◌<◌, ◌^◌, ℕ, true, List, Some}
use Rattle.std.specs.List.{All, AllByRecursion}
use Rattle.rules_text.specs.nodes.Limits.{most_level}
use Rattle.rules_data.specs.forms.Spelling.{contract_place}
use Rattle.rules_data.specs.types.Kind.{nodes}
use Rattle.rules_data.specs.types.Attributes.{comparable}
use Rattle.rules_data.specs.values.Val.{Val, Vals, no_val, more_vals, Pairs, no_pair, more_pairs}
use Rattle.rules_data.specs.values.Val as v
use Rattle.rules_data.specs.values.Tickets.{Identity}
use Rattle.rules_code.specs.steps.Changes.{Change, minted, burnt, identity_of}
use Rattle.rules_code.specs.evaluation.Operations.{new_contract}
use Rattle.rules_code.specs.evaluation.Surroundings.{Contract}
use Rattle.rules_world.specs.world.World.{World, contract_at}
use Rattle.rules_files.specs.snapshots.Spelling.{count_vals}
use Rattle.rules_files.specs.snapshots.Reading.{content_nodes}
use Rattle.rules_files.specs.snapshots.Rules.{is_stored}
use Rattle.mich_text.specs.Written.{CanBeWritten}
use Rattle.laws_commands.specs.written.Written.{IsWritten}

-- ---- values

abbrev mutual
  -- lists can be counted in eight bytes
  pub CanBeCounted : Val → Type 0
  CanBeCounted (v.some x) = CanBeCounted x
  CanBeCounted (v.left x) = CanBeCounted x
  CanBeCounted (v.right x) = CanBeCounted x
  CanBeCounted (v.both x y) = CanBeCounted x × CanBeCounted y
  CanBeCounted (v.list xs) = (count_vals xs < 2 ^ 64) × AllCanBeCounted xs
  CanBeCounted (v.table es) = EntriesCanBeCounted es
  CanBeCounted (v.big_table es) = EntriesCanBeCounted es
  CanBeCounted x = Unit {0}

  pub AllCanBeCounted : Vals → Type 0
  AllCanBeCounted no_val = Unit {0}
  AllCanBeCounted (more_vals x xs) = CanBeCounted x × AllCanBeCounted xs

  pub EntriesCanBeCounted : Pairs → Type 0
  EntriesCanBeCounted no_pair = Unit {0}
  EntriesCanBeCounted (more_pairs x y es) = CanBeCounted y × EntriesCanBeCounted es

-- ---- worlds

-- the 20 bytes of a contract that one of so many groups made
abbrev pub IsPast : ℕ → List ℕ → Type 0
IsPast groups hash = (group : ℕ) × (index : ℕ) × (1 ≤ group) × (group ≤ groups) × (hash ≡ new_contract group index)

-- the size that a contract has paid for can be told in eight bytes
abbrev pub IsKeptContract : ℕ → List ℕ × Contract → Type 0
IsKeptContract groups c =
    IsPast groups c.0 × CanBeWritten c.1.script × IsWritten c.1.storage × CanBeCounted c.1.storage × (c.1.paid < 2 ^ 64)

-- a ticket of a contract that is there, whose content is a value of a type that a ticket may have
abbrev pub IsKeptIdentity : World → Identity → Type 0
IsKeptIdentity w id =
    ((hash : List ℕ) × (id.issuer ≡ contract_place hash) × ((c : Contract) × (contract_at w hash ≡ Some c)))
    × (comparable id.kind ≡ true) × (nodes id.kind ≤ content_nodes) × (is_stored id.kind id.content ≡ true)

-- so is what was minted
abbrev pub IsKeptChange : World → Change → Type 0
IsKeptChange w (minted t) = IsKeptIdentity w (identity_of t)
IsKeptChange w (burnt t) = Unit {0}

pub record IsKept (groups : ℕ) (w : World) : Type 0 where
  pub level : w.level ≤ most_level
  pub contracts : All (IsKeptContract groups) w.contracts
  pub log : AllByRecursion (IsKeptChange w) w.log
