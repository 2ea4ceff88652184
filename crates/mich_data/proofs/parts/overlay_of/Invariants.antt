use Rattle.std.proofs.Common.{◌≡◌, ◌++◌, map}
use Rattle.mich_data.specs.Whole.{put_of}
use Rattle.mich_data.proofs.parts.overlay_of.Given as goal

abbrev pub invariant-loop-key : goal.invariant-loop-key
invariant-loop-key l = l.overlay ++ map put_of l.key-iterator ≡ map put_of l.fn.table
