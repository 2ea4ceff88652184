use Rattle.std.proofs.Common.{drop}
use Rattle.rules_audit.specs.Fields.{each, named}
use Rattle.rules_audit.specs.Lines.{status_by}
use Rattle.mich_base.specs.View.{trees}
use Rattle.mich_audit.specs.View.{parts_seen}
use Rattle.mich_audit.proofs.Telling.{Reaches}
use Rattle.mich_audit.proofs.receipts.each_status.Given as goal

-- what the nodes that are left tell, put behind the parts, is what all of them tell
abbrev pub invariant-statuses : goal.invariant-statuses
invariant-statuses l = Reaches (each (named status_by) (trees l.nodes)) (parts_seen l.fn.parts) (each (named status_by) (trees (drop l.node-index l.node-items))) (parts_seen l.parts)
