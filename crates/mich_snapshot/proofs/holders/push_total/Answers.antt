use Rattle.std.proofs.Common.{◌≡◌}
use Rattle.std.specs.Prelude.{option_map}
use Rattle.std.proofs.lemmas.Result.{err_from_is_err_and}
use Rattle.rules_files.specs.snapshots.Rules.{is_total}
use Rattle.mich_saved.specs.Shown.{total}
use Rattle.mich_term.specs.TicketView.{identity}
use Rattle.mich_term.specs.declared.ticket.TicketId.{TicketId}
use Rattle.mich_tickets.specs.declared.totals.Totals.{Totals}
use Rattle.mich_snapshot.specs.Holders.{total_of}
use Rattle.mich_snapshot.proofs.Faults.{part_alike}
use Rattle.mich_snapshot.proofs.holders.push_total.Goals as goal

pub sound_total-requires : goal.sound_total-requires
sound_total-requires c = c.in_ok-printed.ensures

pub returns-in_err-next-clause-tries : goal.returns-in_err-next-clause-tries
returns-in_err-next-clause-tries c = λ s found reckoned sums are there issuer.
    let t = c.args.total in
    let p = err_from_is_err_and c.from_residual-in_err-next.result c.from_residual-in_err-next.ensures.1 in
    rw (p.1, p.2) (part_alike (TicketId × Totals) TicketId (is_total s (option_map identity c.args.former.now) (total t).1) t.place
    (λ (z : TicketId × Totals). total_of z ≡ (total t).1) (λ (i : TicketId). i ≡ t.id) _ (c.in_err-next.ensures.tries s found reckoned sums are there issuer))

pub returns-clause-tries : goal.returns-clause-tries
returns-clause-tries c = λ s found reckoned sums are there issuer. ((c.in_ok-next.ensures.tries s found reckoned sums are there issuer).0, c.in_ok-printed.ensures)

pub returns-clause-pushed : goal.returns-clause-pushed
returns-clause-pushed c = (c.in_ok-next.next, c.in_ok-push.ensures.pushed, c.in_ok-next.ensures.same)
