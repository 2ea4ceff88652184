use Rattle.std.proofs.Common.{rules, ◌≡◌, ◌∷◌, ◌++◌, map, ap}
use Rattle.std.specs.List.{flat_map}
use Rattle.rules_files.specs.snapshots.Spelling.{holding_spelling}
use Rattle.mich_term.specs.TicketView.{identity}
use Rattle.mich_report.specs.Amounts.{Amounts, seen}
use Rattle.mich_snapshot.proofs.Putting.{put_next}
use Rattle.mich_snapshot.proofs.saving.put_holdings.Goals as goal

pub holdings-preserved : goal.holdings-preserved
holdings-preserved c =
    let iter : Amounts = c.holdings.ticket-iterator in
    let rest : Amounts = c.next.new.self in
    let first : iter ≡ (c.in-Some.ticket.now, c.in-Some.amount.now) ∷ rest = search rules in
    let put : c.put_holding.new.out.items ≡ c.holdings.out.items ++ holding_spelling (identity c.in-Some.ticket.now, c.in-Some.amount.now) = search rules in
    put_next _ _ _ _ _ _ put (ap (λ (es : Amounts). flat_map holding_spelling (map seen es)) first) c.holdings.invariant
