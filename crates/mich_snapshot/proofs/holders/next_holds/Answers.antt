use Rattle.std.proofs.Common.{sym, ap, ◌∙◌, subst}
use Rattle.std.specs.Int.{w128}
use Rattle.std.specs.Prelude.{ℤ, IfOk, option_map}
use Rattle.std.proofs.lemmas.Int.{to_z-of_z}
use Rattle.rules_world.specs.world.World.{identity_order}
use Rattle.rules_files.specs.snapshots.Rules.{is_above, is_holding}
use Rattle.mich_term.specs.TicketView.{identity}
use Rattle.mich_term.specs.declared.ticket.TicketId.{TicketId}
use Rattle.mich_snapshot.specs.Sums.{Finds, more}
use Rattle.mich_snapshot.proofs.HolderRules.{begins_well, found_alike, holding_above, holding_below}
use Rattle.mich_snapshot.proofs.holders.next_holds.Goals as goal

pub returns-then-not-id_is_above : goal.returns-then-not-id_is_above
returns-then-not-id_is_above c = λ s found h.
    let former = option_map identity c.args.former.now in
    let same = ap (λ (i : TicketId). is_above identity_order former (identity i)) c.requires in
    (sym (holding_below s former (identity c.args.id.now, c.args.amount) (sym same ∙ sym c.id_is_above.ensures ∙ c.if-not-id_is_above.true)), λ e. absurd cc)

pub returns : goal.returns
returns c = λ s found h.
    let former = option_map identity c.args.former.now in
    let id = identity c.args.id.now in
    let es = c.holding_holds.new.sums.found.entries in
    let same = ap (λ (i : TicketId). is_above identity_order former (identity i)) c.requires in
    found_alike s (more found id c.args.amount) es (begins_well s (id, c.args.amount)) (is_holding s former (id, c.args.amount)) c.holding_holds.result
    (holding_above s former (id, c.args.amount) (sym same ∙ sym c.id_is_above.ensures ∙ c.if-not-id_is_above.false))
    (subst (λ (n : ℤ). IfOk c.holding_holds.result (Finds s (begins_well s (id, n)) (more found id n) es)) (to_z-of_z w128 c.args.amount c.ranges.amount) (c.holding_holds.ensures s found h))
