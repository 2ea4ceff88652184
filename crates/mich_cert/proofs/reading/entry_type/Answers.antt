use Rattle.mich_base.specs.TypeView.{kind}
use Rattle.mich_cert.proofs.Listing.{none_read, other_read, small_read}
use Rattle.mich_cert.proofs.reading.entry_type.Goals as goal

pub returns-in_default : goal.returns-in_default
returns-in_default c = none_read _ (rw c.in_default.is at c.in_ok-ty.ensures)

pub returns-then-spells : goal.returns-then-spells
returns-then-spells c =
    let f = rw c.in-Some.is at c.in_ok-ty.ensures in
    (c.spells.ensures.0 c.if-spells.true, small_read 0 _ (kind c.in-Some.ty) f)

pub returns-else-spells : goal.returns-else-spells
returns-else-spells c =
    let f = rw c.in-Some.is at c.in_ok-ty.ensures in
    other_read _ (kind c.in-Some.ty) f (λ e. let t = c.spells.ensures.1 e in absurd cc)
