use Rattle.mich_frames.proofs.ForCallers.{never_meets}
use Rattle.mich_interpreter.proofs.calls.act_never.Goals as goal

pub unreachable-requires : goal.unreachable-requires
unreachable-requires c = never_meets c.requires.5
