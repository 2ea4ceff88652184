-- The contents of a group in turn (Octez "Operations", batches).
use Rattle.std.specs.Prelude.{◌≡◌, ◌-◌, ℕ, List, [], map, Result, Ok, Err}
use Rattle.rules_code.specs.steps.Failure.{Failure}
use Rattle.rules_world.specs.world.Groups.{all_applied, one_failed}
use Rattle.rules_world.specs.world.Groups as rules
use Rattle.rules_world.specs.world.Receipts as r
use Rattle.rules_world.specs.world.Trees.{Walk, Last, completed, broken_off, tree}
use Rattle.rules_world.specs.world.World.{World as PlainWorld}
use Rattle.mich_gas.specs.declared.costs.Costs.{Costs}
use Rattle.mich_machine.specs.Calls.{counts_of}
use Rattle.mich_state.specs.declared.state.Counts.{Counts}
use Rattle.mich_ops.specs.Told.{told, told_status}
use Rattle.mich_ops.specs.View.{content as content_of, effect, failure, status}
use Rattle.mich_ops.specs.declared.failure.Failure.{Failure as Failed}
use Rattle.mich_ops.specs.declared.group.Action.{Action}
use Rattle.mich_ops.specs.declared.group.Content.{Content}
use Rattle.mich_ops.specs.declared.receipt.Effect.{Effect}
use Rattle.mich_ops.specs.declared.receipt.Status.{Status}
use Rattle.mich_world.specs.Standing.{StandsFor}
use Rattle.mich_world.specs.World.{World}
use Rattle.mich_group.specs.Trees.{Goes, alone, setting_in}
use Rattle.mich_group.specs.declared.content.Ended.{Ended}
use Rattle.mich_group.specs.declared.content.Ended.TheVariants as ended
use Rattle.mich_group.specs.declared.contents.Turn.{Turn}
use Rattle.mich_group.specs.declared.contents.Turn.TheVariants as turn

-- ---- one content

-- all its operations were applied, with so much of its gas
pub record IsDone (t : Walk) (gas : ℕ) (v : World) (old new : Counts) (used : ℕ) (effects : List Effect) : Type 0 where
  pub last : Last
  pub same : t ≡ completed last
  pub stands : StandsFor v last.world
  pub spent : used ≡ gas - last.gas
  pub did : map effect effects ≡ last.effects
  pub counts : counts_of new ≡ last.counts
  pub group : new.group ≡ old.group

-- one of its operations failed
pub record IsBroken (t : Walk) (count : ℕ) (f : Failed) : Type 0 where
  pub why : Failure
  pub same : t ≡ broken_off count why
  pub told : failure f ≡ told why

abbrev pub ContentAs : {E : Type 0} → Walk → ℕ → World → Counts → Counts → Result Ended E → Type 0
ContentAs t gas v old new (Ok (ended.Applied used effects)) = IsDone t gas v old new used effects
ContentAs t gas v old new (Ok (ended.Failed count f)) = IsBroken t count f
ContentAs t gas v old new (Err e) = Unit {0}

-- wherever this action alone waits, its content ends so
abbrev pub ContentEnds : {E : Type 0} → Costs → List ℕ → Action → ℕ → World → Counts → World → Counts → Result Ended E → Type 0
ContentEnds costs source action gas v counts z now r =
    (start w : PlainWorld) (contents : ℕ) → Goes start (setting_in costs counts source) contents v w (alone action) (counts_of counts) →
    ContentAs (tree (setting_in costs counts source) w (alone action) gas (counts_of counts)) gas z counts now r

-- what holds where all its operations were applied
abbrev pub OnEnded : {E : Type 0} → Result Ended E → Type 0 → Type 0
OnEnded (Ok (ended.Applied used effects)) a = a
OnEnded r a = Unit {0}

-- ---- all contents

-- each was applied, and the world stands for the one behind them
pub record AreApplied (t : rules.Turn) (v : World) (ss : List Status) : Type 0 where
  pub world : PlainWorld
  pub done : List r.Status
  pub same : t ≡ all_applied world done
  pub stands : StandsFor v world
  pub statuses : map status ss ≡ map told_status done

-- one failed
pub record AreBroken (t : rules.Turn) (ss : List Status) : Type 0 where
  pub done : List r.Status
  pub same : t ≡ one_failed done
  pub statuses : map status ss ≡ map told_status done

abbrev pub TurnsAs : {E : Type 0} → rules.Turn → World → Result Turn E → Type 0
TurnsAs t v (Ok (turn.Applied ss)) = AreApplied t v ss
TurnsAs t v (Ok (turn.Failed ss)) = AreBroken t ss
TurnsAs t v (Err e) = Unit {0}

-- wherever a source's group begins, its contents end so
abbrev pub ContentsEnd : {E : Type 0} → Costs → List ℕ → List Content → World → Counts → World → Result Turn E → Type 0
ContentsEnd costs source contents v counts z r =
    (start w : PlainWorld) → Goes start (setting_in costs counts source) 0 v w [] (counts_of counts) →
    TurnsAs (rules.in_turn (setting_in costs counts source) (map content_of contents) w (counts_of counts)) z r

-- what holds where each content was applied
abbrev pub OnApplied : {E : Type 0} → Result Turn E → Type 0 → Type 0
OnApplied (Ok (turn.Applied ss)) a = a
OnApplied r a = Unit {0}
