-- One operation of a group, and how its application ends (Octez "Operations", internal operations).
use Rattle.std.specs.Prelude.{◌≡◌, ◌≤◌, ℕ, true, is_some, Option, Some, None, List, [], ◌∷◌, map, Result, Ok, Err}
use Rattle.std.specs.Borrow.{Bor}
use Rattle.std.specs.List.{AllByRecursion}
use Rattle.rules_data.specs.gas.Prices.{Listed}
use Rattle.rules_data.specs.types.Kind.{Kind}
use Rattle.rules_data.specs.values.Val.{Val}
use Rattle.rules_data.specs.forms.Spelling.{contract_place}
use Rattle.rules_world.specs.world.Application as rules
use Rattle.rules_world.specs.world.Groups.{setting_of}
use Rattle.rules_world.specs.world.Receipts.{Effect}
use Rattle.rules_world.specs.world.World.{World as PlainWorld}
use Rattle.rules_world.specs.world.Outcomes.{Setting, Waiting, issued, Counts as PlainCounts, Outcome, applied, failed}
use Rattle.laws_world.specs.runs.Going.{IsSetting, IsGoing}
use Rattle.mich_base.specs.Counted.{IsNotEmpty}
use Rattle.mich_bigmap.specs.Bases.{Bases}
use Rattle.mich_gas.specs.View.{listed}
use Rattle.mich_gas.specs.declared.costs.Costs.{Costs}
use Rattle.mich_ops.specs.declared.issued.Issued.{Issued}
use Rattle.mich_machine.specs.Calls.{counts_of, issued_in, IsHanded}
use Rattle.mich_state.specs.declared.state.Counts.{Counts}
use Rattle.mich_ops.specs.Told.{told}
use Rattle.mich_ops.specs.View.{effect, failure}
use Rattle.mich_ops.specs.declared.receipt.Effect.{Effect as Done}
use Rattle.mich_world.specs.Holders.{contract_at}
use Rattle.mich_world.specs.Standing.{StandsFor}
use Rattle.mich_world.specs.World.{World}
use Rattle.mich_operations.specs.declared.applied.Applied.{Applied}
use Rattle.mich_operations.specs.declared.applied.ApplyError.{ApplyError}
use Rattle.mich_operations.specs.declared.applied.ApplyError.TheVariants.{Failed, Memory}

-- an operation that the contract of these 20 bytes issued, with its big maps over the bases of a store
abbrev pub issued_by : Bases → List ℕ → Issued → Waiting
issued_by bs hash i = issued (contract_place hash) (issued_in bs i).operation

-- ---- before it

-- A group comes to this operation: the world is as its operations so far left it, and others may wait behind it.
pub record IsNext (s : Setting) (w : PlainWorld) (op : Waiting) (counts : PlainCounts) : Type 0 where
  pub start : PlainWorld
  pub contents : ℕ
  pub few : contents ≤ 1000
  pub behind : List Waiting
  pub setting : IsSetting s
  pub going : IsGoing start s.group contents w (op ∷ behind) counts

-- and a world of the code stands for it
pub record Begins (v : World) (w : PlainWorld) (s : Setting) (op : Waiting) (counts : PlainCounts) : Type 0 where
  pub stands : StandsFor v w
  pub next : IsNext s w op counts

-- ---- the group in the code

-- its setting: the prices, its number, which is kept with the counts, and its source
abbrev pub setting_in : Listed → Counts → List ℕ → Setting
setting_in prices counts source = setting_of prices counts.group source

-- it comes to this operation
abbrev pub BeginsIn : World → PlainWorld → Listed → Counts → List ℕ → Waiting → Type 0
BeginsIn v w prices counts source op = Begins v w (setting_in prices counts source) op (counts_of counts)

-- in some world it does
abbrev pub SomeBegins : World → Costs → Counts → List ℕ → Waiting → Type 0
SomeBegins v costs counts source op = (w : PlainWorld) × BeginsIn v w (listed costs) counts source op

-- ---- behind it

-- what it did, and the growth of its contract
abbrev pub grown : Option Done → List Effect
grown (Some growth) = effect growth ∷ []
grown None = []

abbrev pub effects_of : Applied → List Effect
effects_of a = effect a.effect ∷ grown a.growth

-- It was applied: the world stands for the world behind it; what it did, what it emitted, and the gas and the counts that are left are
-- those of the definitions.
pub record IsApplied (o : Outcome) (v : World) (gas : ℕ) (old new : Counts) (a : Applied) : Type 0 where
  pub world : PlainWorld
  pub stands : StandsFor v world
  pub same :
      o ≡ applied (record {
        world = world;
        emitted = map (issued_by v.store.bases.present a.by) a.emitted;
        effects = effects_of a;
        gas = gas;
        counts = counts_of new;
      })
  pub group : new.group ≡ old.group
  pub handed : AllByRecursion (IsHanded v.store.bases.present) a.emitted
  -- the contract that issued them is there
  pub there : IsNotEmpty a.emitted → is_some (contract_at v.funds.present a.by) ≡ true

-- It was applied so, or failed as the definitions say. After want of memory nothing is said.
abbrev pub EndsAs : Outcome → World → ℕ → Counts → Counts → Result Applied ApplyError → Type 0
EndsAs o v gas old new (Ok a) = IsApplied o v gas old new a
EndsAs (failed why) v gas old new (Err (Failed f)) = failure f ≡ told why
EndsAs o v gas old new (Err (Failed f)) = ⊥
EndsAs o v gas old new (Err Memory) = Unit {0}

-- contracts that were there are there still
abbrev pub KeepsContracts : World → World → Type 0
KeepsContracts old new = (hash : List ℕ) → is_some (contract_at old.funds.present hash) ≡ true → is_some (contract_at new.funds.present hash) ≡ true

-- what holds where memory sufficed
abbrev pub WithMemory : Result Applied ApplyError → Type 0 → Type 0
WithMemory (Err Memory) a = Unit {0}
WithMemory r a = a

-- where a group comes to an operation, its application ends as the definitions say
abbrev pub Applies : Bor Costs → Bor (List ℕ) → Waiting → World → ℕ → Counts → World → ℕ → Counts → Result Applied ApplyError → Type 0
Applies costs source op v gas counts new left after r = (w : PlainWorld) → BeginsIn v w (listed costs.now) counts source.now op
    → EndsAs (rules.apply (setting_in (listed costs.now) counts source.now) w op gas (counts_of counts)) new left counts after r

-- a contract tells a value of a type under a tag
abbrev pub TellsEvent : World → List ℕ → List ℕ → Kind → Val → Result Applied ApplyError → Type 0
TellsEvent v by tag a x r = (w : PlainWorld) (gas : ℕ) (counts : Counts) → StandsFor v w
    → EndsAs (rules.told w (contract_place by) tag a x gas (counts_of counts)) v gas counts counts r
