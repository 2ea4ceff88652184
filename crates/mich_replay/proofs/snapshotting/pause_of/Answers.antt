use Rattle.std.proofs.Common.{Ok, ◌∷◌, [], ◌++◌, subst}
use Rattle.mich_replay.specs.Coming.{Happens}
use Rattle.mich_replay.specs.declared.steps.Event.{Event}
use Rattle.mich_replay.proofs.snapshotting.pause_of.Goals as goal

pub returns-in-Taken : goal.returns-in-Taken
returns-in-Taken c = λ from fed last receipts place r p h.
    let x = subst (λ (e : Event). Happens from fed last receipts place r p (Ok e)) c.in-Taken.is h in
    ((receipts, x.0), x.1)

pub returns-in-Group : goal.returns-in-Group
returns-in-Group c = λ from fed last receipts place r p h.
    let x = subst (λ (e : Event). Happens from fed last receipts place r p (Ok e)) c.in-Group.is h in
    ((receipts ++ x.0 ∷ [], x.2), x.3)

pub returns-in-More : goal.returns-in-More
returns-in-More c = λ from fed last receipts place r p h.
    let x = subst (λ (e : Event). Happens from fed last receipts place r p (Ok e)) c.in-More.is h in
    (x.0, (receipts, x.1), x.2)

pub returns-in-End : goal.returns-in-End
returns-in-End c = λ from fed last receipts place r p h.
    let x = subst (λ (e : Event). Happens from fed last receipts place r p (Ok e)) c.in-End.is h in
    ((receipts, x.0), x.1, x.2)

pub returns-in-Refused : goal.returns-in-Refused
returns-in-Refused c = λ from fed last receipts place r p h.
    (receipts, subst (λ (e : Event). Happens from fed last receipts place r p (Ok e)) c.in-Refused.is h)
