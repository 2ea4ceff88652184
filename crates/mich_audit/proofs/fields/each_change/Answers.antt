use Rattle.std.proofs.Common.{arith, List, subst}
use Rattle.rules_audit.specs.Fields.{each, named, change_by}
use Rattle.mich_audit.specs.Told.{Tells}
use Rattle.mich_audit.proofs.Telling.{one_more, none_more, all_told}
use Rattle.mich_audit.proofs.fields.each_change.Goals as goal

pub returns-then-not-branch : goal.returns-then-not-branch
returns-then-not-branch c =
    none_more (named change_by) _ _ _ _ c.as_slice-node-items.result.now c.changes.node-index c.node-item.result (omega arith) c.node-item.is
    (subst (Tells _ _ _) c.if-not-branch.true c.in_ok-change.ensures) c.changes.invariant

pub changes-preserved : goal.changes-preserved
changes-preserved c =
    one_more (named change_by) _ _ _ _ c.as_slice-node-items.result.now c.changes.node-index c.node-item.result (omega arith) c.node-item.is
    (subst (Tells _ _ _) c.if-not-branch.false c.in_ok-change.ensures) c.changes.invariant

pub returns : goal.returns
returns c = all_told (named change_by) _ _ _ c.as_slice-node-items.result.now c.changes.node-index (omega arith) c.changes.invariant
