-- Steps of a run in its block.
use Rattle.std.proofs.Common.{◌≡◌, ◌<◌, ℕ, List, [], ◌∷◌, ◌++◌, drop, None, refl, sym, ap, ◌∙◌, subst, arith}
use Rattle.mich_instr.specs.Code.{Codes}
use Rattle.mich_instr.specs.Code as made
use Rattle.mich_instr.specs.View.{codes}
use Rattle.mich_instr.specs.declared.instr.Instr.{Instr}
use Rattle.mich_frames.specs.Frames as fr
use Rattle.mich_frames.specs.Sizes.{frames_size}
use Rattle.mich_frames.proofs.ForCallers.{seq_counts, frame_counts}
use Rattle.mich_interpreter.specs.View.{frame, frames}
use Rattle.mich_interpreter.specs.Runs.{HasBegun, IsSpent, IsPaidStep, IsSettled, HasLeft, with_rest, size_of, left_of}
use Rattle.mich_interpreter.specs.declared.machine.Step.{Step}
use Rattle.mich_interpreter.specs.declared.machine.Step.TheVariants as s
use Rattle.mich_interpreter.specs.declared.frame.Frame.{Frame}
use Rattle.mich_interpreter.specs.declared.frame.Frame.TheVariants as f
use Rattle.mich_interpreter.specs.declared.machine.Machine.{Machine}
use Rattle.mich_interpreter.proofs.Listed.{map_reverse}
use Rattle.mich_term.specs.ValueView.{big_step}

-- a sequence that opens leaves less to do that costs nothing
pub seq_smaller : (old mid new : Machine) (inner : List Instr) → codes (drop old.at old.block) ≡ made.more (made.seq (codes inner)) (codes (drop mid.at mid.block)) → mid.frames ≡ old.frames →
    HasBegun None inner (with_rest mid) mid new → size_of new < size_of old
seq_smaller old mid new inner e same h =
    let fs = frames big_step old.frames in
    let P : List Frame → Codes → List Instr → ℕ → Type 0 = λ gs is block at. frames_size (fr.rest (codes (drop at block)) ∷ frames big_step gs) < frames_size (fr.rest is ∷ fs) in
    let base : frames_size (fr.rest (codes inner) ∷ fr.rest (codes (drop mid.at mid.block)) ∷ fs) < frames_size (fr.rest (made.more (made.seq (codes inner)) (codes (drop mid.at mid.block))) ∷ fs) =
    seq_counts (codes inner) (codes (drop mid.at mid.block)) fs in
    let listed : fr.rest (codes (drop mid.at mid.block)) ∷ fs ≡ frames big_step (with_rest mid) =
    ap (λ gs. fr.rest (codes (drop mid.at mid.block)) ∷ frames big_step gs) (sym same) ∙ sym (map_reverse (frame big_step) mid.frames (f.Rest mid.block mid.at)) in
    let one : frames_size (fr.rest (codes inner) ∷ frames big_step (with_rest mid)) < frames_size (fr.rest (made.more (made.seq (codes inner)) (codes (drop mid.at mid.block))) ∷ fs) =
    subst (λ gs. frames_size (fr.rest (codes inner) ∷ gs) < frames_size (fr.rest (made.more (made.seq (codes inner)) (codes (drop mid.at mid.block))) ∷ fs)) listed base in
    let two : P (with_rest mid) (codes (drop old.at old.block)) inner 0 = subst (λ is. P (with_rest mid) is inner 0) (sym e) one in
    let three : P new.frames (codes (drop old.at old.block)) inner 0 = subst (λ gs. P gs (codes (drop old.at old.block)) inner 0) (sym h.frames) two in
    let four : P new.frames (codes (drop old.at old.block)) new.block 0 = subst (λ b. P new.frames (codes (drop old.at old.block)) b 0) (sym h.block) three in
    subst (λ k. P new.frames (codes (drop old.at old.block)) new.block k) (sym h.at) four

-- a block that is over
pub over_smaller : (m : Machine) → frames_size (frames big_step m.frames) < size_of m
over_smaller m = frame_counts (fr.rest (left_of m)) (frames big_step m.frames)

-- what comes of the frames behind a block that is over
pub left_spent : (step : Step) (m new : Machine) (d : ℕ) → HasLeft step (record m { depth = d }) new → IsSpent step m new
left_spent s.Free m new d h = let less = over_smaller m in let le = h.1 in (h.0, omega (arith, less, le))
left_spent s.Paid m new d h = h
left_spent s.Done m new d h = h
left_spent (s.View w) m new d h = absurd h
left_spent (s.Failed why) m new d h = tt

-- a frame that was taken off
pub popped : (fs gs : List Frame) (x : Frame) → fs ≡ gs ++ x ∷ [] → frames big_step fs ≡ frame big_step x ∷ frames big_step gs
popped fs gs x e = ap (frames big_step) e ∙ map_reverse (frame big_step) gs x

pub popped_smaller : (fs gs : List Frame) (x : Frame) → fs ≡ gs ++ x ∷ [] → frames_size (frames big_step gs) < frames_size (frames big_step fs)
popped_smaller fs gs x e = subst (λ hs. frames_size (frames big_step gs) < frames_size hs) (sym (popped fs gs x e)) (frame_counts (frame big_step x) (frames big_step gs))

pub settled_of : (step : Step) (old mid new : Machine) → (step ≡ s.Free → ⊥) → mid.state.meter ≡ old.state.meter → IsSpent step mid new → IsSettled step old new
settled_of s.Free old mid new free e h = absurd (free refl)
settled_of s.Paid old mid new free e h = omega (arith, e, h)
settled_of s.Done old mid new free e h = h ∙ e
settled_of (s.View w) old mid new free e h = omega (arith, e, h)
settled_of (s.Failed why) old mid new free e h = tt

pub paid_spent : (step : Step) (old new : Machine) → IsPaidStep step old.state.meter new.state.meter → IsSpent step old new
paid_spent s.Free old new h = absurd h
paid_spent s.Paid old new h = h
paid_spent s.Done old new h = h
paid_spent (s.View w) old new h = h
paid_spent (s.Failed why) old new h = tt
