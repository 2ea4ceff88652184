-- What holds between the operations of a group.
use Rattle.std.specs.Prelude.{◌≡◌, ◌≤◌, ◌<◌, ◌+◌, ◌^◌, ℕ, suc, true, List, [], ◌∷◌, ◌++◌, take, None}
use Rattle.std.specs.Int.{w64, to_be_bytes}
use Rattle.rules_text.specs.nodes.Limits.{operation_limit}
use Rattle.rules_data.specs.declared.gas.Kind.{Kind as Priced}
use Rattle.rules_data.specs.gas.Prices.{price_of}
use Rattle.rules_data.specs.forms.Spelling.{is_key_hash}
use Rattle.rules_world.specs.world.World.{World, contract_at}
use Rattle.rules_world.specs.world.Balances.{supply}
use Rattle.rules_world.specs.world.Outcomes.{Setting, Waiting, ordered, issued, Counts, Outcome, applied, failed, stuck}
use Rattle.rules_world.specs.world.Good.{IsGood}
use Rattle.laws_world.specs.operations.Fresh.{made_by_waiting, IsFresh}

-- everything costs something, and the group has a number and a source
pub record IsSetting (s : Setting) : Type 0 where
  pub costs : (kind : Priced) → 1 ≤ (price_of s.prices kind).base
  pub small : s.group < 2 ^ 64
  pub source : is_key_hash s.source ≡ true

-- how many operations that wait are ordered by the source
abbrev pub orders : List Waiting → ℕ
orders [] = 0
orders (ordered action ∷ waiting) = suc (orders waiting)
orders (issued sender op ∷ waiting) = orders waiting

-- the bytes of no contract of a group
abbrev pub IsOther : ℕ → List ℕ → Type 0
IsOther group hash = ¬ (take 8 hash ≡ to_be_bytes w64 group)

-- what a group leaves as it is: all mutez, what was granted, and that contracts of other groups aren't there
pub record IsKept (group : ℕ) (start w : World) : Type 0 where
  pub mutez : supply w ≡ supply start
  pub granted : w.granted ≡ start.granted
  pub others : (hash : List ℕ) → IsOther group hash → contract_at start hash ≡ None → contract_at w hash ≡ None

-- A good world in which operations wait, where the group has so many contents so far: contracts that it makes are new, the
-- counts are within their limits, and the rest is as in the world in which the group began.
pub record IsGoing (start : World) (group contents : ℕ) (w : World) (waiting : List Waiting) (counts : Counts) : Type 0 where
  pub good : IsGood w waiting
  pub operations : counts.operations ≤ operation_limit
  pub originations : counts.originations + orders waiting ≤ counts.operations + contents
  pub fresh : IsFresh group counts.originations w (made_by_waiting waiting)
  pub kept : IsKept group start w

-- an operation that was applied keeps this, and none is stuck
abbrev pub KeepsGoing : World → Setting → ℕ → List Waiting → Outcome → Type 0
KeepsGoing start s contents waiting (applied a) = IsGoing start s.group contents a.world (a.emitted ++ waiting) a.counts
KeepsGoing start s contents waiting (failed failure) = Unit {0}
KeepsGoing start s contents waiting stuck = ⊥
