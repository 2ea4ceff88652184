-- What costs no gas makes the frames smaller, and what is charged leaves less gas.
use Rattle.std.proofs.Common.{◌<◌, List, ◌∷◌, arith}
use Rattle.mich_instr.specs.Code.{Codes}
use Rattle.mich_instr.specs.Code as made
use Rattle.mich_frames.specs.Frames.{Frame}
use Rattle.mich_frames.specs.Frames as fr
use Rattle.mich_frames.specs.Sizes.{frames_size}

-- a frame that is taken off
pub frame_counts : (f : Frame) (fs : List Frame) → frames_size fs < frames_size (f ∷ fs)
frame_counts (fr.rest is) fs = omega arith
frame_counts (fr.making is x ys xs) fs = omega arith
frame_counts _ fs = omega arith

-- a sequence that opens
pub seq_counts : (is js : Codes) (fs : List Frame) → frames_size (fr.rest is ∷ fr.rest js ∷ fs) < frames_size (fr.rest (made.more (made.seq is) js) ∷ fs)
seq_counts is js fs = omega arith
