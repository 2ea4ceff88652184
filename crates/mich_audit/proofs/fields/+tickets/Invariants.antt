use Rattle.std.proofs.Common.{drop}
use Rattle.rules_audit.specs.Fields.{each, tickets_in, tickets_within}
use Rattle.mich_base.specs.View.{trees}
use Rattle.mich_audit.specs.View.{parts_seen}
use Rattle.mich_audit.proofs.Telling.{Reaches}
use Rattle.mich_audit.proofs.fields.+tickets.Given as goal

-- what the nodes that are left tell, put behind the parts, is what all of them tell
abbrev pub invariant-tickets_within-literals : goal.invariant-tickets_within-literals
invariant-tickets_within-literals l = Reaches (tickets_within (trees l.nodes)) (parts_seen l.fn.parts) (each tickets_in (trees (drop l.node-index l.node-items))) (parts_seen l.parts)
