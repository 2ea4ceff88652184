use Rattle.mich_scenario.proofs.Groups.{no_group, a_group, unread_group}
use Rattle.mich_scenario.proofs.forms.group.Goals as goal

pub returns-in_default-source : goal.returns-in_default-source
returns-in_default-source c = no_group _ _ _ c.in-Some.ensures c.in_default-source.ensures

pub returns-in-Ok : goal.returns-in-Ok
returns-in-Ok c = a_group _ _ _ _ _ c.in-Some.ensures c.in-Some-source.ensures c.in-Ok.ensures

pub returns : goal.returns
returns c = unread_group _ _ _ _ _ c.in-Some.ensures c.in-Some-source.ensures c.in-Err.ensures
