use Rattle.std.proofs.Common.{◌≡◌, ◌≤◌, List, length}
use Rattle.rules_data.specs.types.Kind.{Kind}
use Rattle.rules_code.specs.evaluation.Outcome.{Outcome}
use Rattle.mich_frames.specs.Frames.{Frame}
use Rattle.mich_frames.specs.Sizes.{frames_size}
use Rattle.mich_interpreter.specs.View.{Beyond, frames}
use Rattle.mich_interpreter.specs.Ends.{KeepsState}
use Rattle.mich_interpreter.specs.Runs.{Behind, SomeEnd}
use Rattle.mich_interpreter.proofs.machine.leave.Given as goal
use Rattle.mich_term.specs.ValueView.{big_step}

abbrev pub invariant-frames : goal.invariant-frames
invariant-frames l = record {
  some : SomeEnd l.costs l.m;
  keeps : (x : Beyond) (gs : List Frame) (Z : List Kind) (o : Outcome) → Behind x l.costs l.initial.m gs Z o → Behind x l.costs l.m gs Z o;
  gas : l.m.state.meter ≡ l.initial.m.state.meter;
  size : frames_size (frames big_step l.m.frames) ≤ frames_size (frames big_step l.initial.m.frames);
  state : KeepsState l.initial.m.state l.m.state;
}

abbrev pub decreases-frames : goal.decreases-frames
decreases-frames l = length l.m.frames
