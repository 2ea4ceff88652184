use Rattle.std.proofs.Common.{refl, subst}
use Rattle.mich_frames.proofs.ForCallers.{under_ends, call_ends}
use Rattle.mich_interpreter.specs.Ends.{Waits, Stands}
use Rattle.mich_interpreter.specs.declared.frame.Frame.{Frame}
use Rattle.mich_interpreter.proofs.Keeping.{same_keeps}
use Rattle.mich_interpreter.proofs.machine.unwind.Goals as goal

pub returns-in_ok-put_all-in-Under-clause-acts : goal.returns-in_ok-put_all-in-Under-clause-acts
returns-in_ok-put_all-in-Under-clause-acts c = λ x fs d Z o h.
    rw (c.in_ok-put_all-in-Under.ensures x.sight) (under_ends (rw c.in-Under.is at h))

pub returns-in_ok-put_below-in-Call-clause-acts : goal.returns-in_ok-put_below-in-Call-clause-acts
returns-in_ok-put_below-in-Call-clause-acts c = λ x fs d Z o h.
    rw (c.in_ok-put_below-in-Call.ensures x.sight) (call_ends (rw c.in-Call.is at h))

pub next_turn-requires : goal.next_turn-requires
next_turn-requires c = subst (λ (f : Frame). Waits f c.args.costs.now c.args.m.now) c.in-Turns.is c.requires.waits

pub returns-in_ok-next_turn-in-Turns-clause-acts : goal.returns-in_ok-next_turn-in-Turns-clause-acts
returns-in_ok-next_turn-in-Turns-clause-acts c = λ x fs d Z o h.
    c.in_ok-next_turn-in-Turns.ensures.acts x fs d Z o (subst (λ (f : Frame). Stands f x c.args.costs.now c.args.m.now fs d Z o) c.in-Turns.is h)

pub next_left_turn-requires : goal.next_left_turn-requires
next_left_turn-requires c = subst (λ (f : Frame). Waits f c.args.costs.now c.args.m.now) c.in-LeftTurns.is c.requires.waits

pub returns-in_ok-next_left_turn-in-LeftTurns-clause-acts : goal.returns-in_ok-next_left_turn-in-LeftTurns-clause-acts
returns-in_ok-next_left_turn-in-LeftTurns-clause-acts c = λ x fs d Z o h.
    c.in_ok-next_left_turn-in-LeftTurns.ensures.acts x fs d Z o (subst (λ (f : Frame). Stands f x c.args.costs.now c.args.m.now fs d Z o) c.in-LeftTurns.is h)

pub next_each-requires : goal.next_each-requires
next_each-requires c = subst (λ (f : Frame). Waits f c.args.costs.now c.args.m.now) c.in-Each.is c.requires.waits

pub returns-in_ok-next_each-in-Each-clause-acts : goal.returns-in_ok-next_each-in-Each-clause-acts
returns-in_ok-next_each-in-Each-clause-acts c = λ x fs d Z o h.
    c.in_ok-next_each-in-Each.ensures.acts x fs d Z o (subst (λ (f : Frame). Stands f x c.args.costs.now c.args.m.now fs d Z o) c.in-Each.is h)

pub next_made-requires : goal.next_made-requires
next_made-requires c = rw c.into_value.ensures (subst (λ (f : Frame). Waits f c.args.costs.now c.args.m.now) c.in-Making.is c.requires.waits)

pub returns-in_ok-next_made-in-Making-clause-acts : goal.returns-in_ok-next_made-in-Making-clause-acts
returns-in_ok-next_made-in-Making-clause-acts c = λ x fs d Z o h.
    c.in_ok-next_made-in-Making.ensures.acts x fs d Z o (rw c.into_value.ensures (subst (λ (f : Frame). Stands f x c.args.costs.now c.args.m.now fs d Z o) c.in-Making.is h))

pub returns-in_ok-put_all-in-Under-clause-keeps : goal.returns-in_ok-put_all-in-Under-clause-keeps
returns-in_ok-put_all-in-Under-clause-keeps c = same_keeps _ _ refl refl refl

pub returns-in_ok-put_below-in-Call-clause-keeps : goal.returns-in_ok-put_below-in-Call-clause-keeps
returns-in_ok-put_below-in-Call-clause-keeps c = same_keeps _ _ refl refl refl
