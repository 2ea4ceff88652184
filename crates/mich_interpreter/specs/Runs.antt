-- Where a run stands, and how its steps end.
use Rattle.std.specs.Prelude.{◌≡◌, ◌≤◌, ◌<◌, ◌+◌, ◌++◌, ℕ, Bool, true, false, List, [], ◌∷◌, drop, Option, Some, None, Result, IfOk, IfSome}
use Rattle.mich_base.specs.declared.memory.Memory.{Memory}
use Rattle.rules_text.specs.nodes.Limits.{block_limit}
use Rattle.rules_data.specs.types.Kind.{Kind}
use Rattle.rules_code.specs.evaluation.Outcome.{Outcome, stack, failed}
use Rattle.mich_gas.specs.declared.costs.Costs.{Costs}
use Rattle.mich_instr.specs.Code.{Codes}
use Rattle.mich_instr.specs.View.{codes}
use Rattle.mich_instr.specs.declared.instr.Instr.{Instr}
use Rattle.mich_instr.specs.declared.instr.Instr.TheVariants as instr
use Rattle.mich_frames.specs.Frames as fr
use Rattle.mich_frames.specs.Stands.{StandsAt}
use Rattle.mich_frames.specs.Sizes.{frames_size}
use Rattle.mich_interpreter.specs.declared.act.Act.{Act}
use Rattle.mich_interpreter.specs.declared.act.Act.TheVariants as a
use Rattle.mich_interpreter.specs.declared.frame.Frame.{Frame}
use Rattle.mich_interpreter.specs.declared.frame.Frame.TheVariants as f
use Rattle.mich_interpreter.specs.declared.machine.Machine.{Machine}
use Rattle.mich_state.specs.declared.state.State.{State}
use Rattle.mich_interpreter.specs.declared.machine.Step.{Step}
use Rattle.mich_interpreter.specs.declared.machine.Step.TheVariants as s
use Rattle.mich_interpreter.specs.declared.machine.Ended.{Ended}
use Rattle.mich_interpreter.specs.declared.machine.Ended.TheVariants as e
use Rattle.mich_interpreter.specs.View.{Beyond, tops, frames, around, tally}
use Rattle.mich_interpreter.specs.Sees.{Sees}
use Rattle.mich_world.specs.World.{World}
use Rattle.mich_interpreter.specs.Ends.{failure, Acts, KeepsPast, KeepsState}
use Rattle.mich_term.specs.ValueView.{big_step}

-- what is left of the block that runs
abbrev pub left_of : Machine → Codes
left_of m = codes (drop m.at m.block)

-- the run is in its block, and these frames are below its own
abbrev pub InBlock : Beyond → Costs → Machine → List fr.Frame → List Kind → Outcome → Type 0
InBlock x costs m gs Z o =
    StandsAt (fr.rest (left_of m) ∷ frames x.sight m.frames ++ gs) (around x costs m.state) (tops x.sight m.state.stack) (tally x m.state)
    m.depth Z o

-- the run is behind its block
abbrev pub Behind : Beyond → Costs → Machine → List fr.Frame → List Kind → Outcome → Type 0
Behind x costs m gs Z o =
    StandsAt (frames x.sight m.frames ++ gs) (around x costs m.state) (tops x.sight m.state.stack) (tally x m.state) m.depth Z o

-- what has acted is in front of the rest of the block
abbrev pub HasActedIn : Act → Beyond → Costs → Machine → List fr.Frame → List Kind → Outcome → Type 0
HasActedIn act x costs m gs Z o = Acts act x costs m.state (fr.rest (left_of m) ∷ frames x.sight m.frames ++ gs) m.depth Z o

-- frames with one more, or none
abbrev pub with_below : List Frame → Option Frame → List Frame
with_below fs None = fs
with_below fs (Some below) = fs ++ below ∷ []

-- a block is open over a frame or none, or there are too many
pub record HasBegun (below : Option Frame) (body : List Instr) (fs : List Frame) (old new : Machine) : Type 0 where
  pub few : old.depth < block_limit
  pub block : new.block ≡ body
  pub at : new.at ≡ 0
  pub frames : new.frames ≡ with_below fs below
  pub depth : new.depth ≡ old.depth + 1

abbrev pub IsBegun : Bool → Option Frame → List Instr → List Frame → Machine → Machine → Type 0
IsBegun true below body fs old new = HasBegun below body fs old new
IsBegun false below body fs old new = block_limit ≤ old.depth

-- the frames with the rest of the block
abbrev pub with_rest : Machine → List Frame
with_rest m = m.frames ++ f.Rest m.block m.at ∷ []

-- where all of its own frames are done, those below come next
abbrev pub IsStep : Step → Beyond → Costs → Machine → List fr.Frame → List Kind → Outcome → Type 0
IsStep s.Free x costs m gs Z o = InBlock x costs m gs Z o
IsStep s.Paid x costs m gs Z o = InBlock x costs m gs Z o
IsStep s.Done x costs m gs Z o = StandsAt gs (around x costs m.state) (tops x.sight m.state.stack) (tally x m.state) m.depth Z o
IsStep (s.View w) x costs m gs Z o = HasActedIn (a.View w) x costs m gs Z o
IsStep (s.Failed why) x costs m gs Z o = o ≡ failed (failure x.sight why)

-- wherever the run is in its block, and sees a world, the outcome of the whole stays behind the step
abbrev pub StaysIn : World → Costs → Machine → Machine → Result Step Memory → Type 0
StaysIn v costs old new r =
    (x : Beyond) (gs : List fr.Frame) (Z : List Kind) (o : Outcome) → InBlock x costs old gs Z o → Sees v x →
    IfOk r (λ s. IsStep s x costs new gs Z o)

-- wherever this has acted in front of the rest of the block
abbrev pub StaysBehindAct : Act → Machine → Machine → Result Step Memory → Type 0
StaysBehindAct act old new r =
    (x : Beyond) (costs : Costs) (gs : List fr.Frame) (Z : List Kind) (o : Outcome) → HasActedIn act x costs old gs Z o →
    IfOk r (λ s. IsStep s x costs new gs Z o)

-- wherever it is behind its block
abbrev pub StaysBehind : Costs → Machine → Machine → Result Step Memory → Type 0
StaysBehind costs old new r =
    (x : Beyond) (gs : List fr.Frame) (Z : List Kind) (o : Outcome) → Behind x costs old gs Z o →
    IfOk r (λ s. IsStep s x costs new gs Z o)

-- the same, if there was a step
abbrev pub StaysBehindTurn : Costs → Machine → Machine → Result (Option Step) Memory → Type 0
StaysBehindTurn costs old new r =
    (x : Beyond) (gs : List fr.Frame) (Z : List Kind) (o : Outcome) → Behind x costs old gs Z o →
    IfOk r (λ t. IfSome t (λ s. IsStep s x costs new gs Z o))

-- how much there is that costs nothing
abbrev pub size_of : Machine → ℕ
size_of m = frames_size (fr.rest (left_of m) ∷ frames big_step m.frames)

-- a step costs gas, or leaves less that costs nothing, or is the end
abbrev pub IsSpent : Step → Machine → Machine → Type 0
IsSpent s.Free old new = (new.state.meter ≡ old.state.meter) × (size_of new < size_of old)
IsSpent s.Paid old new = new.state.meter < old.state.meter
IsSpent s.Done old new = new.state.meter ≡ old.state.meter
IsSpent (s.View w) old new = new.state.meter < old.state.meter
IsSpent (s.Failed why) old new = Unit {0}

-- what comes of frames that are taken off, of a size
abbrev pub HasLeft : Step → Machine → Machine → Type 0
HasLeft s.Free old new = (new.state.meter ≡ old.state.meter) × (size_of new ≤ frames_size (frames big_step old.frames))
HasLeft s.Paid old new = new.state.meter < old.state.meter
HasLeft s.Done old new = new.state.meter ≡ old.state.meter
HasLeft (s.View w) old new = ⊥
HasLeft (s.Failed why) old new = Unit {0}

-- a step in a block, which isn't free, from so much gas
abbrev pub IsPaidStep : Step → ℕ → ℕ → Type 0
IsPaidStep s.Free old new = ⊥
IsPaidStep s.Paid old new = new < old
IsPaidStep s.Done old new = new ≡ old
IsPaidStep (s.View w) old new = new < old
IsPaidStep (s.Failed why) old new = Unit {0}

-- a step that isn't free
abbrev pub IsSettled : Step → Machine → Machine → Type 0
IsSettled step old new = IsPaidStep step old.state.meter new.state.meter

-- where the run stands somewhere, and sees a world
abbrev pub SomeRun : World → Costs → Machine → Type 0
SomeRun v costs m = (x : Beyond) × (gs : List fr.Frame) × (Z : List Kind) × (o : Outcome) × InBlock x costs m gs Z o × Sees v x

abbrev pub SomeEnd : Costs → Machine → Type 0
SomeEnd costs m = (x : Beyond) × (gs : List fr.Frame) × (Z : List Kind) × (o : Outcome) × Behind x costs m gs Z o

-- what a step keeps
abbrev pub KeepsStep : Step → State → State → Type 0
KeepsStep (s.Failed why) old new = KeepsPast old new
KeepsStep _ old new = KeepsState old new

-- how the whole ends
abbrev pub IsEnd : Ended → Beyond → List Kind → Outcome → Type 0
IsEnd (e.Stack m) x Z o = o ≡ stack Z (tops x.sight m.stack) (tally x m)
IsEnd (e.Failed m why) x Z o = o ≡ failed (failure x.sight why)

-- what the whole keeps
abbrev pub KeepsEnd : Ended → State → Type 0
KeepsEnd (e.Stack m) old = KeepsState old m
KeepsEnd (e.Failed m why) old = KeepsPast old m

-- the frame isn't the rest of a block
abbrev pub IsNoBlock : Frame → Type 0
IsNoBlock (f.Rest block at) = ⊥
IsNoBlock _ = Unit {0}

-- the instruction isn't a sequence
abbrev pub IsNoSequence : Instr → Type 0
IsNoSequence i = (is : List Instr) → i ≡ instr.Seq is → ⊥
