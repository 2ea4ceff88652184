use Rattle.mich_interpreter.proofs.Begun.{opens_inside}
use Rattle.mich_interpreter.proofs.Keeping.{keeps_to, past_of}
use Rattle.mich_interpreter.proofs.machine.follow.Goals as goal

pub returns-then-begun-clause-stays : goal.returns-then-begun-clause-stays
returns-then-begun-clause-stays c = λ x costs gs Z o h.
    let begun = rw c.if-begun.true at c.in_ok-begun-in-Open.ensures.begun in
    opens_inside x costs gs Z o _ _ c.args.m.now _ begun c.begin_inside.ensures.state (rw c.in-Open.is at h)

pub returns-then-begun-clause-keeps : goal.returns-then-begun-clause-keeps
returns-then-begun-clause-keeps c = λ from h. keeps_to from _ _ (rw c.in-Open.is at h) c.begin_inside.ensures.state

pub returns-else-begun-clause-keeps : goal.returns-else-begun-clause-keeps
returns-else-begun-clause-keeps c = λ from h. past_of from _ (keeps_to from _ _ (rw c.in-Open.is at h) c.begin_inside.ensures.state)
