use Rattle.std.proofs.Common.{◌≡◌, List}
use Rattle.rules_data.specs.types.Kind.{Kind}
use Rattle.rules_code.specs.evaluation.Outcome.{Outcome}
use Rattle.mich_frames.specs.Frames.{Frame}
use Rattle.mich_interpreter.specs.View.{Beyond}
use Rattle.mich_interpreter.specs.Ends.{KeepsState}
use Rattle.mich_interpreter.specs.Runs.{InBlock, SomeRun, size_of}
use Rattle.mich_interpreter.specs.Sees.{Sees}
use Rattle.mich_interpreter.proofs.machine.settle.Given as goal

abbrev pub invariant-free : goal.invariant-free
invariant-free l = record {
  some : SomeRun l.world l.costs l.m;
  keeps : (x : Beyond) (gs : List Frame) (Z : List Kind) (o : Outcome) → InBlock x l.costs l.initial.m gs Z o → Sees l.world x → InBlock x l.costs l.m gs Z o;
  gas : l.m.state.meter ≡ l.initial.m.state.meter;
  state : KeepsState l.initial.m.state l.m.state;
}

abbrev pub decreases-free : goal.decreases-free
decreases-free l = size_of l.m
