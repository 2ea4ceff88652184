use Rattle.std.proofs.Common.{sym, ◌∙◌}
use Rattle.mich_audit.proofs.Counts.{six_listed}
use Rattle.mich_audit.proofs.counted.six.Goals as goal

pub returns-in-len6 : goal.returns-in-len6
returns-in-len6 c =
    sym c.as_slice.ensures
    ∙ six_listed _ _ _ _ _ _ _ c.in-len6.len_at_least c.in-len6.len_below c.a-item.is c.b-item.is c.c-item.is c.d-item.is c.e-item.is c.f-item.is
