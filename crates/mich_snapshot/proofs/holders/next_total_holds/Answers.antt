use Rattle.std.proofs.Common.{◌≡◌, Bool, sym, ap, ◌∙◌}
use Rattle.std.specs.Prelude.{option_map}
use Rattle.std.proofs.lemmas.Result.{IfOk-weaker}
use Rattle.rules_world.specs.world.World.{identity_order}
use Rattle.rules_files.specs.snapshots.Rules.{is_above, is_total}
use Rattle.mich_saved.specs.Shown.{total}
use Rattle.mich_term.specs.TicketView.{identity}
use Rattle.mich_term.specs.declared.ticket.TicketId.{TicketId}
use Rattle.mich_snapshot.specs.Holders.{is_whole_total}
use Rattle.mich_snapshot.proofs.ContractRules.{not_above, whole_total}
use Rattle.mich_snapshot.proofs.holders.next_total_holds.Goals as goal

pub returns-then-not-id_is_above : goal.returns-then-not-id_is_above
returns-then-not-id_is_above c = λ s found reckoned sums are there issuer.
    let former = option_map identity c.args.former.now in
    let same = ap (λ (i : TicketId). is_above identity_order former (identity i)) c.requires in
    sym (not_above s former (total c.args.total.now).1 (sym same ∙ sym c.id_is_above.ensures ∙ c.if-not-id_is_above.true))

pub returns : goal.returns
returns c = λ s found reckoned sums are there issuer.
    let former = option_map identity c.args.former.now in
    let same = ap (λ (i : TicketId). is_above identity_order former (identity i)) c.requires in
    let t = (total c.args.total.now).1 in
    let n = found t.identity in
    let whole = whole_total s former t n (reckoned t.identity) (sym same ∙ sym c.id_is_above.ensures ∙ c.if-not-id_is_above.false) in
    IfOk-weaker c.total_holds.result (λ (b : Bool). b ≡ is_whole_total s.contracts n t) (λ (b : Bool). b ≡ is_total s former t) (λ b e. e ∙ sym whole)
    (c.total_holds.ensures s found s.contracts sums are there issuer)
