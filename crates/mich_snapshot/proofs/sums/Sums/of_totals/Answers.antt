use Rattle.std.proofs.Common.{◌≡◌, List, map, take, sym, ap, subst, ◌∙◌, arith}
use Rattle.std.proofs.lemmas.Grind.{common_steps}
use Rattle.std.specs.BTreeMap.{insert_entry}
use Rattle.rules_files.specs.snapshots.State.{Total}
use Rattle.mich_term.specs.TicketView.{identity}
use Rattle.mich_term.specs.declared.ticket.TicketId.{TicketId}
use Rattle.mich_tickets.specs.Lines.{by_identity}
use Rattle.mich_snapshot.proofs.Counts.{AreNothing, nothing_found, nothing_more}
use Rattle.mich_snapshot.proofs.Identities.{same_identities}
use Rattle.mich_snapshot.proofs.Left.{one_taken}
use Rattle.mich_snapshot.proofs.sums.Sums.of_totals.Goals as goal

pub loop-total-preserved : goal.loop-total-preserved
loop-total-preserved c =
    let items = c.as_slice-total-items.result.now in
    let i = c.loop-total.total-index in
    let x = c.total-item.result in
    subst (λ (ks : List TicketId). AreNothing ks c.insert.new.self.entries) (sym (one_taken (λ t. t.id) items i x c.loop-total-test.true c.total-item.is))
    (nothing_more (map (λ t. t.id) (take i items)) x.id c.loop-total.found.entries c.insert.new.self.entries c.loop-total.invariant
    (c.in_ok-insert.ensures.entries ∙ ap (λ (k : TicketId). insert_entry by_identity c.loop-total.found.entries k 0) c.in_ok-id.ensures))

pub returns : goal.returns
returns c = λ s e.
    let items = c.as_slice-total-items.result.now in
    let i = c.loop-total.total-index in
    let all : take i items ≡ items = grind (arith, common_steps) in
    nothing_found s (map (λ t. t.id) (take i items)) c.loop-total.found.entries c.loop-total.invariant
    (ap (λ l. map identity (map (λ t. t.id) l)) (all ∙ c.as_slice-total-items.ensures) ∙ same_identities c.args.totals.now ∙ ap (map (λ (t : Total). t.identity)) e)
