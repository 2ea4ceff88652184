-- Operations with all that they emit, on their way and at their end (Octez "Operations", the order of internal operations).
use Rattle.std.specs.Prelude.{◌≡◌, ◌≤◌, ◌+◌, ◌-◌, ℕ, Option, Some, None, List, [], ◌∷◌, ◌++◌, map, Result, Ok, Err, Bool, true, false}
use Rattle.rules_world.specs.world.Receipts.{Effect}
use Rattle.rules_world.specs.world.Groups.{setting_of}
use Rattle.rules_world.specs.world.World.{World as PlainWorld}
use Rattle.rules_world.specs.world.Outcomes.{Setting, Waiting, ordered, Counts as PlainCounts, Success, applied, failed}
use Rattle.rules_world.specs.world.Application.{apply}
use Rattle.rules_world.specs.world.Trees as rules
use Rattle.rules_world.specs.world.Trees.{Walk, completed, broken_off, stuck_walk}
use Rattle.rules_code.specs.steps.Failure.{Failure}
use Rattle.laws_world.specs.runs.Going.{IsSetting, IsGoing}
use Rattle.mich_gas.specs.View.{listed}
use Rattle.mich_gas.specs.declared.costs.Costs.{Costs}
use Rattle.mich_machine.specs.Calls.{counts_of}
use Rattle.mich_state.specs.declared.state.Counts.{Counts}
use Rattle.mich_operations.specs.declared.applied.ApplyError.{ApplyError}
use Rattle.mich_operations.specs.declared.applied.ApplyError.TheVariants as one
use Rattle.mich_ops.specs.Told.{told}
use Rattle.mich_ops.specs.declared.failure.Failure.{Failure as Failed}
use Rattle.mich_ops.specs.View.{action as action_of, effect, failure}
use Rattle.mich_ops.specs.declared.group.Action.{Action}
use Rattle.mich_ops.specs.declared.receipt.Effect.{Effect as Done}
use Rattle.mich_world.specs.Standing.{StandsFor}
use Rattle.mich_world.specs.World.{World}
use Rattle.mich_group.specs.Waiting.{all_sent}
use Rattle.mich_group.specs.declared.tree.TreeError.{TreeError}
use Rattle.mich_group.specs.declared.tree.TreeError.TheVariants as tree
use Rattle.mich_group.specs.declared.waiting.Sent.{Sent}

-- what an operation did, and the growth of its contract
abbrev pub with_growth : Done → Option Done → List Done
with_growth done (Some growth) = done ∷ growth ∷ []
with_growth done None = done ∷ []

-- ---- on its way

-- A world of the code stands for one in which a group, which began in a start and is at so many contents, has these operations waiting.
pub record Goes (start : PlainWorld) (s : Setting) (contents : ℕ) (v : World) (w : PlainWorld) (waiting : List Waiting) (counts : PlainCounts) : Type 0 where
  pub few : contents ≤ 1000
  pub setting : IsSetting s
  pub stands : StandsFor v w
  pub going : IsGoing start s.group contents w waiting counts

-- the setting of a source's group, whose number the counts hold
abbrev pub setting_in : Costs → Counts → List ℕ → Setting
setting_in costs counts source = setting_of (listed costs) counts.group source

-- an action that a source orders, behind which nothing waits
abbrev pub alone : Action → List Waiting
alone action = ordered (action_of action) ∷ []

-- somewhere a source's group has these operations waiting
abbrev pub SomeGoing : Costs → List ℕ → List Waiting → World → Counts → Type 0
SomeGoing costs source waiting v counts =
    (start w : PlainWorld) × (contents : ℕ) × Goes start (setting_in costs counts source) contents v w waiting (counts_of counts)

-- The next operation was applied: what it emitted goes before the others, and what it did behind what was done.
pub record IsStep (s : Setting) (w : PlainWorld) (waiting : List Waiting) (gas : ℕ) (counts : PlainCounts) (v : World) (left : ℕ) (now : PlainCounts) (ss : List Sent) (before after : List Done) : Type 0 where
  pub op : Waiting
  pub others : List Waiting
  pub first : waiting ≡ op ∷ others
  pub behind : Success
  pub same : apply s w op gas counts ≡ applied behind
  pub stands : StandsFor v behind.world
  pub sent : all_sent v.store.bases.present ss ≡ behind.emitted ++ others
  pub done : map effect after ≡ map effect before ++ behind.effects
  pub units : left ≡ behind.gas
  pub counted : now ≡ behind.counts

-- the next operation failed
pub record IsFailed (s : Setting) (w : PlainWorld) (waiting : List Waiting) (gas : ℕ) (counts : PlainCounts) (f : Failed) : Type 0 where
  pub op : Waiting
  pub others : List Waiting
  pub first : waiting ≡ op ∷ others
  pub why : Failure
  pub same : apply s w op gas counts ≡ failed why
  pub told : failure f ≡ told why

-- it was applied, or failed; after want of memory nothing is said
abbrev pub StepsAs : {U : Type 0} → Setting → PlainWorld → List Waiting → ℕ → PlainCounts → World → ℕ → PlainCounts → List Sent → List Done → List Done → Result U ApplyError → Type 0
StepsAs s w waiting gas counts v left now ss before after (Ok _) = IsStep s w waiting gas counts v left now ss before after
StepsAs s w waiting gas counts v left now ss before after (Err (one.Failed f)) = IsFailed s w waiting gas counts f
StepsAs s w waiting gas counts v left now ss before after (Err one.Memory) = Unit {0}

-- the same where an operation waited
abbrev pub StepsTo : Setting → PlainWorld → List Waiting → ℕ → PlainCounts → World → ℕ → PlainCounts → List Sent → List Done → List Done → Result Bool ApplyError → Type 0
StepsTo s w waiting gas counts v left now ss before after (Ok true) = IsStep s w waiting gas counts v left now ss before after
StepsTo s w waiting gas counts v left now ss before after (Ok false) = Unit {0}
StepsTo s w waiting gas counts v left now ss before after (Err (one.Failed f)) = IsFailed s w waiting gas counts f
StepsTo s w waiting gas counts v left now ss before after (Err one.Memory) = Unit {0}

-- wherever this action alone waits, it is applied, or fails
abbrev pub Acts : {U : Type 0} → Costs → List ℕ → Action → World → ℕ → Counts → World → ℕ → Counts → List Sent → List Done → List Done → Result U ApplyError → Type 0
Acts costs source action v gas counts z left now ss before after r =
    (start w : PlainWorld) (contents : ℕ) → Goes start (setting_in costs counts source) contents v w (alone action) (counts_of counts) →
    StepsAs (setting_in costs counts source) w (alone action) gas (counts_of counts) z left (counts_of now) ss before after r

-- wherever these operations wait, the next one is applied, or fails
abbrev pub Steps : Costs → List ℕ → World → List Sent → ℕ → Counts → World → ℕ → Counts → List Sent → List Done → List Done → Result Bool ApplyError → Type 0
Steps costs source v waiting gas counts z left now ss before after r =
    (start w : PlainWorld) (contents : ℕ) →
    Goes start (setting_in costs counts source) contents v w (all_sent v.store.bases.present waiting) (counts_of counts) →
    StepsTo (setting_in costs counts source) w (all_sent v.store.bases.present waiting) gas (counts_of counts)
    z left (counts_of now) ss before after r

-- no operation waits, before or after, and nothing is changed
abbrev pub NoneWaits : List Sent → World → ℕ → Counts → List Done → List Sent → World → ℕ → Counts → List Done → Type 0
NoneWaits waiting v gas counts before others z left now after =
    (waiting ≡ []) × (others ≡ []) × (z ≡ v) × (left ≡ gas) × (now ≡ counts) × (after ≡ before)

-- what holds where memory sufficed
abbrev pub OnStep : {U : Type 0} → Result U ApplyError → Type 0 → Type 0
OnStep (Err one.Memory) a = Unit {0}
OnStep r a = a

-- ---- at its end

-- all operations were applied, and the world stands for the one behind them
pub record IsWalked (t : Walk) (v : World) (gas : ℕ) (old new : Counts) (effects : List Done) : Type 0 where
  pub world : PlainWorld
  pub stands : StandsFor v world
  pub same : t ≡ completed (record { world = world; effects = map effect effects; gas = gas; counts = counts_of new })
  pub group : new.group ≡ old.group

-- all were applied, or one failed behind so many; after want of memory nothing is said
abbrev pub WalksAs : {U : Type 0} → Walk → World → ℕ → Counts → Counts → List Done → Result U TreeError → Type 0
WalksAs t v gas old new effects (Ok _) = IsWalked t v gas old new effects
WalksAs (broken_off n why) v gas old new effects (Err (tree.Failed m f)) = (m ≡ n) × (failure f ≡ told why)
WalksAs t v gas old new effects (Err (tree.Failed m f)) = ⊥
WalksAs t v gas old new effects (Err tree.Memory) = Unit {0}

-- so many operations were applied before, with these effects
abbrev pub behind_all : List Effect → ℕ → Walk → Walk
behind_all effects n (completed last) = completed (record { world = last.world; effects = effects ++ last.effects; gas = last.gas; counts = last.counts })
behind_all effects n (broken_off count failure) = broken_off (n + count) failure
behind_all effects n stuck_walk = stuck_walk

-- wherever this action alone waits, it and all that it emits are applied, or one fails
abbrev pub Walks : {U : Type 0} → Costs → List ℕ → Action → World → ℕ → Counts → World → ℕ → Counts → List Done → Result U TreeError → Type 0
Walks costs source action v gas counts z left now effects r =
    (start w : PlainWorld) (contents : ℕ) → Goes start (setting_in costs counts source) contents v w (alone action) (counts_of counts) →
    WalksAs (rules.tree (setting_in costs counts source) w (alone action) gas (counts_of counts)) z left counts now effects r

-- the same of these operations, of which one was applied before, with the gas that all had
abbrev pub WalksOn : {U : Type 0} → Costs → List ℕ → ℕ → World → List Sent → ℕ → Counts → List Done → World → ℕ → Counts → List Done → Result U TreeError → Type 0
WalksOn costs source all v waiting gas counts before z left now after r =
    (start w : PlainWorld) (contents : ℕ) →
    Goes start (setting_in costs counts source) contents v w (all_sent v.store.bases.present waiting) (counts_of counts) →
    WalksAs
    (behind_all (map effect before) 1
    (rules.tree_within (all - 1) (setting_in costs counts source) w (all_sent v.store.bases.present waiting) gas (counts_of counts)))
    z left counts now after r

-- what holds where memory sufficed
abbrev pub WithMemory : {U : Type 0} → Result U TreeError → Type 0 → Type 0
WithMemory (Err tree.Memory) a = Unit {0}
WithMemory r a = a
