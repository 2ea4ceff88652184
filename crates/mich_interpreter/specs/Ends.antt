-- How an instruction ends.
use Rattle.std.specs.Prelude.{◌≡◌, ◌≤◌, ◌<◌, ◌-◌, ℕ, pos, ◌+ℤ◌, ◌-ℤ◌, Bool, true, false, List, [], ◌∷◌, Option, Some, None, Result, IfOk}
use Rattle.mich_base.specs.declared.memory.Memory.{Memory}
use Rattle.rules_text.specs.nodes.Tree.{Tree, Trees}
use Rattle.rules_data.specs.declared.gas.Kind.{Kind as Priced}
use Rattle.rules_data.specs.gas.Prices.{Listed, cost}
use Rattle.rules_data.specs.types.Kind.{Kind}
use Rattle.rules_data.specs.values.Val.{Val}
use Rattle.rules_code.specs.steps.Changes.{Change, burnt_in}
use Rattle.rules_code.specs.steps.Environment.{Environment}
use Rattle.laws_code.specs.evaluation.Laws.{amount_issued}
use Rattle.rules_code.specs.steps.Failure.{Failure}
use Rattle.rules_code.specs.steps.Failure as f
use Rattle.rules_code.specs.evaluation.Operations.{Tally}
use Rattle.rules_code.specs.evaluation.Outcome.{Outcome, failed}
use Rattle.mich_gas.specs.declared.costs.Costs.{Costs}
use Rattle.mich_base.specs.TypeView.{kind}
use Rattle.mich_base.specs.undo.History.{Keeps as KeepsBooks}
use Rattle.mich_stack.specs.Views.{Sight, seen}
use Rattle.mich_step.specs.Views.{environment}
use Rattle.mich_instr.specs.Code as made
use Rattle.mich_instr.specs.Code.{Code, Codes}
use Rattle.mich_instr.specs.View.{codes}
use Rattle.mich_instr.specs.declared.instr.Instr.{Instr}
use Rattle.mich_frames.specs.Around.{Around, in_environment, with_burnt}
use Rattle.mich_frames.specs.Frames as fr
use Rattle.mich_frames.specs.Rows.{view_row}
use Rattle.mich_frames.specs.Stands.{StandsAt, MeetsAt, OpensAt}
use Rattle.mich_interpreter.specs.declared.act.Act.{Act}
use Rattle.mich_interpreter.specs.declared.act.Act.TheVariants as a
use Rattle.mich_interpreter.specs.declared.act.Failed.{Failed}
use Rattle.mich_interpreter.specs.declared.act.Failed.TheVariants as x
use Rattle.mich_interpreter.specs.declared.frame.Frame.{Frame}
use Rattle.mich_interpreter.specs.declared.frame.Frame.TheVariants as kept
use Rattle.mich_interpreter.specs.declared.loops.Turn.{Turn}
use Rattle.mich_interpreter.specs.declared.loops.Turn.TheVariants as turn
use Rattle.mich_state.specs.declared.state.State.{State}
use Rattle.mich_term.specs.ValueView.{val}
use Rattle.mich_tickets.specs.Effects.{Tells}
use Rattle.mich_interpreter.specs.Issues.{KeepsScripts}
use Rattle.mich_interpreter.specs.Parts.{is_true_top}
use Rattle.mich_interpreter.specs.View.{Beyond, tops, frame, around, tally}
use Rattle.mich_interpreter.specs.Sees.{Sees}
use Rattle.mich_world.specs.World.{World}

-- what a kind costs at a weight was taken, or there isn't so much gas
abbrev pub IsPaid : Bool → Listed → Priced → ℕ → ℕ → ℕ → Type 0
IsPaid true prices kind weight old new = (cost prices kind weight ≤ old) × (new ≡ old - cost prices kind weight)
IsPaid false prices kind weight old new = old < cost prices kind weight

-- the failure that one of the code stands for
abbrev pub failure : Sight → Failed → Failure
failure big (x.With ty value) = f.failed_with (kind ty) (val value)
failure big x.OutOfGas = f.out_of_gas
failure big x.IntegerLimit = f.integer_limit
failure big x.MutezOverflow = f.mutez_overflow
failure big x.ShiftLimit = f.shift_limit
failure big x.SizeLimit = f.size_limit
failure big x.DepthLimit = f.depth_limit
failure big x.TooManyOperations = f.too_many_operations

-- frames below another one, or below none
abbrev pub over : Sight → Option Frame → List fr.Frame → List fr.Frame
over big None fs = fs
over big (Some below) fs = frame big below ∷ fs

-- in a view with this environment, at whose beginning nothing is burnt or handed over
abbrev pub in_view : Around → Environment → Tally → Around
in_view u e m = with_burnt (in_environment u e) (λ id. pos 0 -ℤ (amount_issued id m.issued +ℤ burnt_in id m.changes))

-- a view opens on the one value that it begins with, over the stack of its caller
abbrev pub ActsAt : Sight → Act → List fr.Frame → Around → List Val → Tally → ℕ → List Kind → Outcome → Type 0
ActsAt big a.On fs u V m d Z o = StandsAt fs u V m d Z o
ActsAt big (a.Open below body) fs u V m d Z o = OpensAt (codes body) (over big below fs) u V m d Z o
ActsAt big (a.Failed why) fs u V m d Z o = o ≡ failed (failure big why)
ActsAt big (a.View w) fs u V m d Z o =
    OpensAt (codes w.code) (fr.viewing u.environment u.burnt m.issued m.changes V ∷ fs) (in_view u (environment w.env) m) (seen big w.value ∷ []) m d Z o

-- what was paid for leaves less gas
abbrev pub Spends : Act → ℕ → ℕ → Type 0
Spends (a.Failed why) old new = Unit {0}
Spends _ old new = new < old

-- what comes after a turn is no view, and costs nothing where there is no further one
abbrev pub Turns : Act → ℕ → ℕ → Type 0
Turns (a.Failed why) old new = Unit {0}
Turns (a.View w) old new = ⊥
Turns a.On old new = new ≡ old
Turns _ old new = new < old

-- what comes of a LOOP with this body, whose further turns come first
abbrev pub HasTurned : Turn → List Instr → Beyond → Costs → State → List fr.Frame → ℕ → List Kind → Outcome → Type 0
HasTurned turn.Over body x costs m fs d Z o = is_true_top (tops x.sight m.stack) ≡ false
HasTurned turn.Unpaid body x costs m fs d Z o = o ≡ failed f.out_of_gas
HasTurned turn.Paid body x costs m fs d Z o =
    OpensAt (codes body) (fr.turns (codes body) ∷ fs) (around x costs m) (tops x.sight m.stack) (tally x m) d Z o

-- a turn that is paid for leaves less gas, and where there is none nothing is changed
abbrev pub IsTurned : Turn → State → State → Type 0
IsTurned turn.Over old new = new ≡ old
IsTurned turn.Unpaid old new = Unit {0}
IsTurned turn.Paid old new = new.meter < old.meter

-- what was written to the books can be taken back, the group has its number still, and the scripts of originations are typed where
-- they were
pub record KeepsPast (old new : State) : Type 0 where
  pub books : KeepsBooks old.ledger.books new.ledger.books
  pub group : new.counts.group ≡ old.counts.group
  pub scripts : KeepsScripts old.issued new.issued

-- and the ledger was told changes
pub record KeepsState (old new : State) : Type 0 where
  pub books : KeepsBooks old.ledger.books new.ledger.books
  pub changes : List Change
  pub tells : Tells changes old.ledger new.ledger
  pub group : new.counts.group ≡ old.counts.group
  pub scripts : KeepsScripts old.issued new.issued

-- after a failure nothing is said of what the ledger was told
abbrev pub KeepsAct : Act → State → State → Type 0
KeepsAct (a.Failed why) old new = KeepsPast old new
KeepsAct _ old new = KeepsState old new

-- this instruction comes first, and these frames are below it
abbrev pub Meets : Code → Beyond → Costs → State → List fr.Frame → ℕ → List Kind → Outcome → Type 0
Meets i x costs m fs d Z o = MeetsAt i fs (around x costs m) (tops x.sight m.stack) (tally x m) d Z o

-- this frame comes first
abbrev pub Stands : Frame → Beyond → Costs → State → List fr.Frame → ℕ → List Kind → Outcome → Type 0
Stands f x costs m fs d Z o = StandsAt (frame x.sight f ∷ fs) (around x costs m) (tops x.sight m.stack) (tally x m) d Z o

-- wherever the frame of a LOOP comes first, this comes of it
abbrev pub TurnsSo : Turn → Costs → State → State → Type 0
TurnsSo t costs old new =
    (body : List Instr) (x : Beyond) (fs : List fr.Frame) (d : ℕ) (Z : List Kind) (o : Outcome) →
    Stands (kept.Turns body) x costs old fs d Z o → HasTurned t body x costs new fs d Z o

-- what came first has acted
abbrev pub Acts : Act → Beyond → Costs → State → List fr.Frame → ℕ → List Kind → Outcome → Type 0
Acts a x costs m fs d Z o = ActsAt x.sight a fs (around x costs m) (tops x.sight m.stack) (tally x m) d Z o

-- a state is met, in which this instruction comes first
abbrev pub Comes : Code → Costs → State → Type 0
Comes i costs m = (x : Beyond) × (fs : List fr.Frame) × (d : ℕ) × (Z : List Kind) × (o : Outcome) × Meets i x costs m fs d Z o

-- or this frame
abbrev pub Waits : Frame → Costs → State → Type 0
Waits f costs m = (x : Beyond) × (fs : List fr.Frame) × (d : ℕ) × (Z : List Kind) × (o : Outcome) × Stands f x costs m fs d Z o

-- wherever the instruction comes first, the outcome of the whole stays as it acts
abbrev pub Carries : Code → Costs → State → State → Result Act Memory → Type 0
Carries i costs old new r =
    (x : Beyond) (fs : List fr.Frame) (d : ℕ) (Z : List Kind) (o : Outcome) → Meets i x costs old fs d Z o →
    IfOk r (λ a. Acts a x costs new fs d Z o)

-- the same of LAMBDA or LAMBDA_REC with these types, this body and its code, however the types are written
abbrev pub ComesLambda : Bool → Kind → Kind → Tree → Codes → Costs → State → Type 0
ComesLambda recursive a r body is costs m = (written : Trees) × Comes (made.lambda recursive a r written body is) costs m

abbrev pub CarriesLambda : Bool → Kind → Kind → Tree → Codes → Costs → State → State → Result Act Memory → Type 0
CarriesLambda recursive a r body is costs old new result = (written : Trees) → Carries (made.lambda recursive a r written body is) costs old new result

-- the same for what sees a world
abbrev pub ComesIn : World → Code → Costs → State → Type 0
ComesIn v i costs m =
    (x : Beyond) × (fs : List fr.Frame) × (d : ℕ) × (Z : List Kind) × (o : Outcome) × Meets i x costs m fs d Z o × Sees v x

abbrev pub CarriesIn : World → Code → Costs → State → State → Result Act Memory → Type 0
CarriesIn v i costs old new r =
    (x : Beyond) (fs : List fr.Frame) (d : ℕ) (Z : List Kind) (o : Outcome) → Meets i x costs old fs d Z o → Sees v x →
    IfOk r (λ a. Acts a x costs new fs d Z o)

-- the same of VIEW with a name and two types, however it is written
abbrev pub ComesView : World → List ℕ → Kind → Kind → Costs → State → Type 0
ComesView v name a b costs m = (app : Tree) × ComesIn v (made.straight (view_row name a b) app) costs m

abbrev pub CarriesView : World → List ℕ → Kind → Kind → Costs → State → State → Result Act Memory → Type 0
CarriesView v name a b costs old new r = (app : Tree) → CarriesIn v (made.straight (view_row name a b) app) costs old new r

-- wherever the frame does
abbrev pub Resumes : Frame → Costs → State → State → Result Act Memory → Type 0
Resumes f costs old new r =
    (x : Beyond) (fs : List fr.Frame) (d : ℕ) (Z : List Kind) (o : Outcome) → Stands f x costs old fs d Z o →
    IfOk r (λ a. Acts a x costs new fs d Z o)

-- the same of a plain frame, by what big maps stand for
abbrev pub StandsOn : (Sight → fr.Frame) → Beyond → Costs → State → List fr.Frame → ℕ → List Kind → Outcome → Type 0
StandsOn f x costs m fs d Z o = StandsAt (f x.sight ∷ fs) (around x costs m) (tops x.sight m.stack) (tally x m) d Z o

abbrev pub WaitsOn : (Sight → fr.Frame) → Costs → State → Type 0
WaitsOn f costs m = (x : Beyond) × (fs : List fr.Frame) × (d : ℕ) × (Z : List Kind) × (o : Outcome) × StandsOn f x costs m fs d Z o

abbrev pub ResumesOn : (Sight → fr.Frame) → Costs → State → State → Result Act Memory → Type 0
ResumesOn f costs old new r =
    (x : Beyond) (fs : List fr.Frame) (d : ℕ) (Z : List Kind) (o : Outcome) → StandsOn f x costs old fs d Z o →
    IfOk r (λ a. Acts a x costs new fs d Z o)
