use Rattle.std.proofs.Common.{rules, ◌≡◌, ℕ, Some, List, [], ◌∷◌, ◌++◌, map, append-nil, None, sym, ap, subst, ◌∙◌, arith}
use Rattle.std.specs.Prelude.{option_map}
use Rattle.std.specs.Vec.Iter.{into_iter_items}
use Rattle.std.proofs.lemmas.Grind.{common_steps}
use Rattle.std.proofs.lemmas.Result.{err_from_is_err_and}
use Rattle.rules_code.specs.evaluation.Surroundings.{Contract}
use Rattle.rules_files.specs.snapshots.Rules.{is_total}
use Rattle.mich_saved.specs.Shown.{total}
use Rattle.mich_saved.specs.declared.parts.ReadTotal.{ReadTotal}
use Rattle.mich_term.specs.TicketView.{identity}
use Rattle.mich_term.specs.declared.ticket.TicketId.{TicketId}
use Rattle.mich_tickets.specs.declared.totals.Totals.{Totals}
use Rattle.mich_snapshot.specs.Holders.{AreHashes, total_of}
use Rattle.mich_snapshot.proofs.Faults.{part_alike}
use Rattle.mich_snapshot.proofs.TotalRules.{one_more_saved}
use Rattle.mich_snapshot.proofs.Ways.{TotalsOnWay, totals_end, totals_go, totals_next, totals_start, totals_stop}
use Rattle.mich_snapshot.proofs.holders.tried_totals.Goals as goal

pub loop-total-init : goal.loop-total-init
loop-total-init c =
    let all : into_iter_items c.into_iter-total-iterator.result ≡ c.args.totals = search rules in
    record {
      way = λ s place cs ready are each.
          subst (λ (l : List ReadTotal). TotalsOnWay s place None l c.new-sound.result) (sym all)
          (subst (λ (l : List (TicketId × Totals)). TotalsOnWay s place None c.args.totals l) (sym c.new-sound.ensures) (totals_start s place c.args.totals ready.spelt each));
      saved = ap (λ (l : List (TicketId × Totals)). map total_of l ++ map (λ t. (total t).1) (into_iter_items c.into_iter-total-iterator.result)) c.new-sound.ensures
          ∙ ap (map (λ (t : ReadTotal). (total t).1)) all;
    }

pub loop-total-preserved : goal.loop-total-preserved
loop-total-preserved c =
    let rest = into_iter_items c.next.new.self in
    let x = c.in-Some.total in
    let former = option_map identity c.loop-total.former in
    let put = c.in_ok-printed.ensures.pushed in
    let first : into_iter_items c.loop-total.total-iterator ≡ x ∷ rest = search rules in
    record {
      way = λ s place cs ready are each.
          let way = subst (λ (l : List ReadTotal). TotalsOnWay s place former l c.loop-total.sound) first (c.loop-total.invariant.way s place cs ready are each) in
          let n = totals_next s place former x rest c.loop-total.sound way in
          let hashes = subst (λ (ds : List (List ℕ × Contract)). AreHashes ds c.args.hashes.now.keys) ready.contracts are in
          let told = c.in_ok-printed.ensures.tries s ready.found ready.reckoned ready.sums hashes n.there n.issuer in
          subst (λ (id : TicketId). TotalsOnWay s place (Some (identity id)) rest c.push_total.new.sound) (sym told.1)
          (totals_go s place former x rest c.loop-total.sound c.push_total.new.sound put.0 way (told.0, put.2) put.1);
      saved = one_more_saved c.loop-total.sound c.push_total.new.sound put.0 x rest _
          (ap (λ (l : List ReadTotal). map total_of c.loop-total.sound ++ map (λ t. (total t).1) l) (sym first) ∙ c.loop-total.invariant.saved) put.2 put.1;
    }

pub returns-in_err-printed-clause-tries : goal.returns-in_err-printed-clause-tries
returns-in_err-printed-clause-tries c = λ s place cs ready are each.
    let rest = into_iter_items c.next.new.self in
    let x = c.in-Some.total in
    let former = option_map identity c.loop-total.former in
    let first : into_iter_items c.loop-total.total-iterator ≡ x ∷ rest = search rules in
    let way = subst (λ (l : List ReadTotal). TotalsOnWay s place former l c.loop-total.sound) first (c.loop-total.invariant.way s place cs ready are each) in
    let n = totals_next s place former x rest c.loop-total.sound way in
    let hashes = subst (λ (ds : List (List ℕ × Contract)). AreHashes ds c.args.hashes.now.keys) ready.contracts are in
    let p = err_from_is_err_and c.from_residual.result c.from_residual.ensures.1 in
    rw (p.1, p.2) (totals_stop (List (TicketId × Totals)) s place former x rest c.loop-total.sound _ way
    (part_alike TicketId (TicketId × Totals) (is_total s former (total x).1) x.place (λ (i : TicketId). i ≡ x.id) (λ (z : TicketId × Totals). total_of z ≡ (total x).1) _
    (c.in_err-printed.ensures.tries s ready.found ready.reckoned ready.sums hashes n.there n.issuer)))

pub returns-clause-tries : goal.returns-clause-tries
returns-clause-tries c = λ s place cs ready are each.
    let former = option_map identity c.loop-total.former in
    let none : into_iter_items c.loop-total.total-iterator ≡ [] = grind (arith, common_steps) in
    (totals_end s place former c.loop-total.sound
    (subst (λ (l : List ReadTotal). TotalsOnWay s place former l c.loop-total.sound) none (c.loop-total.invariant.way s place cs ready are each))).0

pub returns-clause-saved : goal.returns-clause-saved
returns-clause-saved c =
    let none : into_iter_items c.loop-total.total-iterator ≡ [] = grind (arith, common_steps) in
    sym (append-nil (map total_of c.loop-total.sound)) ∙ ap (λ (l : List ReadTotal). map total_of c.loop-total.sound ++ map (λ t. (total t).1) l) (sym none) ∙ c.loop-total.invariant.saved
