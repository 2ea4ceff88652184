use Rattle.std.proofs.Common.{drop}
use Rattle.rules_audit.specs.Fields.{each, named, change_by}
use Rattle.mich_base.specs.View.{trees}
use Rattle.mich_audit.specs.View.{parts_seen}
use Rattle.mich_audit.proofs.Telling.{Reaches}
use Rattle.mich_audit.proofs.fields.each_change.Given as goal

-- what the nodes that are left tell, put behind the parts, is what all of them tell
abbrev pub invariant-changes : goal.invariant-changes
invariant-changes l = Reaches (each (named change_by) (trees l.nodes)) (parts_seen l.fn.parts) (each (named change_by) (trees (drop l.node-index l.node-items))) (parts_seen l.parts)
