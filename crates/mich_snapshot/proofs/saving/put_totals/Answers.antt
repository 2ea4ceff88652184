use Rattle.std.proofs.Common.{rules, ◌≡◌, ℤ, ◌∷◌, ◌++◌, map, ap}
use Rattle.std.specs.List.{flat_map}
use Rattle.rules_data.specs.values.Tickets.{Identity}
use Rattle.rules_files.specs.snapshots.Spelling.{total_spelling}
use Rattle.mich_term.specs.TicketView.{identity}
use Rattle.mich_report.specs.Amounts.{Amounts, seen}
use Rattle.mich_snapshot.specs.Saved.{total_in}
use Rattle.mich_snapshot.proofs.Putting.{put_next}
use Rattle.mich_snapshot.proofs.saving.put_totals.Goals as goal

pub tickets-preserved : goal.tickets-preserved
tickets-preserved c =
    let b = c.args.ledger.now.books.present in
    let iter : Amounts = c.tickets.ticket-iterator in
    let rest : Amounts = c.next.new.self in
    let first : iter ≡ (c.in-Some.ticket.now, c.in-Some.amount.now) ∷ rest = search rules in
    let put : c.put_total.new.out.items ≡ c.tickets.out.items ++ total_spelling (total_in b (identity c.in-Some.ticket.now)) = search rules in
    put_next _ _ _ _ _ _ put (ap (λ (es : Amounts). flat_map total_spelling (map (λ (e : Identity × ℤ). total_in b e.0) (map seen es))) first)
    c.tickets.invariant
