use Rattle.std.proofs.Common.{sym}
use Rattle.mich_scenario.proofs.Counts.{more_fields}
use Rattle.mich_scenario.proofs.forms.costs.Goals as goal

pub returns-then-not-is_empty : goal.returns-then-not-is_empty
returns-then-not-is_empty c = sym (more_fields _ _ _ c.in_ok-table.ensures c.if-not-is_empty.ensures)
