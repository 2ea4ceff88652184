use Rattle.std.proofs.Common.{arith, ℕ, List, subst, IfOk}
use Rattle.rules_audit.specs.Fields.{each, ticket_by, tickets_in, tickets_within}
use Rattle.rules_text.specs.nodes.Tree.{Trees}
use Rattle.mich_audit.specs.View.{parts_seen}
use Rattle.mich_audit.specs.Told.{Tells}
use Rattle.mich_base.specs.View.{trees}
use Rattle.mich_base.specs.declared.node.Node.{Node}
use Rattle.mich_audit.proofs.Telling.{one_more, none_more, all_told, Reaches, both, begun_within, then_all}
use Rattle.mich_audit.proofs.fields.+tickets.Goals as goal

pub tickets_within-returns-then-not-branch : goal.tickets_within-returns-then-not-branch
tickets_within-returns-then-not-branch t c =
    none_more tickets_in _ _ _ _ c.as_slice-node-items.result.now c.literals.node-index c.node-item.result (omega arith) c.node-item.is
    (subst (Tells _ _ _) c.if-not-branch.true c.in_ok-tickets_in.ensures) c.literals.invariant

pub tickets_within-literals-preserved : goal.tickets_within-literals-preserved
tickets_within-literals-preserved t c =
    one_more tickets_in _ _ _ _ c.as_slice-node-items.result.now c.literals.node-index c.node-item.result (omega arith) c.node-item.is
    (subst (Tells _ _ _) c.if-not-branch.false c.in_ok-tickets_in.ensures) c.literals.invariant

pub tickets_within-returns : goal.tickets_within-returns
tickets_within-returns t c = all_told tickets_in _ _ _ c.as_slice-node-items.result.now c.literals.node-index (omega arith) c.literals.invariant

pub tickets_within-literals-init : goal.tickets_within-literals-init
tickets_within-literals-init t c =
    subst (λ (ns : List Node). Reaches (tickets_within (trees ns)) (parts_seen c.args.parts.now) (each tickets_in (trees c.as_slice-node-items.result.now)) (parts_seen c.args.parts.now)) c.as_slice-node-items.ensures
    (begun_within (trees c.as_slice-node-items.result.now) (parts_seen c.args.parts.now))

pub tickets_in_application-returns : goal.tickets_in_application-returns
tickets_in_application-returns t c =
    let args : Trees = trees c.args.app.now.args in
    subst (λ (name : List ℕ). IfOk c.tickets_within.result (λ told. Tells (both (ticket_by name args) (tickets_within args)) (parts_seen c.args.parts.now) (parts_seen c.tickets_within.new.parts) told)) c.as_slice.ensures
    (then_all _ _ _ _ _ c.tickets_within.result (subst (Tells _ _ _) c.if-not-branch.false c.in_ok-ticket_by.ensures) c.tickets_within.ensures)
