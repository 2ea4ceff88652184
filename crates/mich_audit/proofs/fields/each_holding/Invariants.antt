use Rattle.std.proofs.Common.{drop}
use Rattle.rules_audit.specs.Fields.{each, named, holding_by}
use Rattle.mich_base.specs.View.{trees}
use Rattle.mich_audit.specs.View.{parts_seen}
use Rattle.mich_audit.proofs.Telling.{Reaches}
use Rattle.mich_audit.proofs.fields.each_holding.Given as goal

-- what the nodes that are left tell, put behind the parts, is what all of them tell
abbrev pub invariant-holdings : goal.invariant-holdings
invariant-holdings l = Reaches (each (named holding_by) (trees l.nodes)) (parts_seen l.fn.parts) (each (named holding_by) (trees (drop l.node-index l.node-items))) (parts_seen l.parts)
