use Rattle.std.proofs.Common.{sym, ◌∙◌}
use Rattle.mich_audit.proofs.Counts.{seven_listed}
use Rattle.mich_audit.proofs.counted.seven.Goals as goal

pub returns-in-len7 : goal.returns-in-len7
returns-in-len7 c =
    sym c.as_slice.ensures
    ∙ seven_listed _ _ _ _ _ _ _ _ c.in-len7.len_at_least c.in-len7.len_below c.a-item.is c.b-item.is c.c-item.is c.d-item.is c.e-item.is c.f-item.is c.g-item.is
