use Rattle.std.proofs.Common.{refl, sym, ◌∙◌}
use Rattle.mich_snapshot.proofs.holders.sound_account.Goals as goal

pub returns-then-not-holds : goal.returns-then-not-holds
returns-then-not-holds c = λ s found h. (sym (c.in_ok-holds.ensures s found h).0 ∙ c.if-not-holds.true, refl)

pub returns : goal.returns
returns c = λ s found h.
    let told = c.in_ok-holds.ensures s found h in
    (sym told.0 ∙ c.if-not-holds.false, (refl, told.1 c.if-not-holds.false))
