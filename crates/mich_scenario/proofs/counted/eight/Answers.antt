use Rattle.std.proofs.Common.{sym, ◌∙◌}
use Rattle.mich_scenario.proofs.Counts.{eight_listed}
use Rattle.mich_scenario.proofs.counted.eight.Goals as goal

pub returns-in-len8 : goal.returns-in-len8
returns-in-len8 c =
    sym c.as_slice.ensures
    ∙ eight_listed _ _ _ _ _ _ _ _ _ c.in-len8.len_at_least c.in-len8.len_below c.a-item.is c.b-item.is c.c-item.is c.d-item.is c.e-item.is c.f-item.is c.g-item.is c.h-item.is
