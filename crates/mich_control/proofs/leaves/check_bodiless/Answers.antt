use Rattle.mich_control.proofs.Plains.{bodiless_made}
use Rattle.mich_control.proofs.leaves.check_bodiless.Goals as goal

pub returns-in-Some : goal.returns-in-Some
returns-in-Some c =
    let st = rw c.in-Some.is at c.in_ok-made.ensures in
    let empty = rw c.if-not-is_empty.false at c.is_empty.ensures in
    bodiless_made _ _ _ _ _ _ _ c.requires _ empty st
