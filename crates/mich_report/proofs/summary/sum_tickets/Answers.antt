use Rattle.std.proofs.Common.{rules, ◌≡◌, ◌∷◌, ◌+ℤ◌, ◌-ℤ◌, map, ap, ◌∙◌}
use Rattle.mich_term.specs.TicketView.{identity}
use Rattle.mich_tickets.specs.Sums.{totals_of, minted_of, burnt_of}
use Rattle.mich_tickets.specs.declared.totals.Totals.{Totals}
use Rattle.mich_report.specs.Amounts.{Amounts, seen}
use Rattle.mich_report.proofs.Summing.{entries_more}
use Rattle.mich_report.proofs.summary.sum_tickets.Goals as goal

pub tickets-preserved : goal.tickets-preserved
tickets-preserved c =
    let b = c.args.ledger.now.books.present in
    let iter : Amounts = c.tickets.id-iterator in
    let rest : Amounts = c.next.new.self in
    let first : iter ≡ (c.in-Some.id.now, c.in-Some.amount.now) ∷ rest = search rules in
    let there = ap (λ (es : Amounts). map seen es) first in
    let j = identity c.in-Some.id.now in
    let t : c.totals.result ≡ totals_of b j = search rules in
    let n = c.tickets.sums in
    record {
      minted = entries_more (minted_of b) n.minted _ _ j c.in-Some.amount.now (map seen iter) (map seen rest) there
          (c.in_ok-sums.ensures.minted ∙ ap (λ (x : Totals). n.minted +ℤ x.minted) t) c.tickets.invariant.minted;
      burnt = entries_more (burnt_of b) n.burnt _ _ j c.in-Some.amount.now (map seen iter) (map seen rest) there
          (c.in_ok-sums.ensures.burnt ∙ ap (λ (x : Totals). n.burnt +ℤ x.burnt) t) c.tickets.invariant.burnt;
      held = entries_more (λ k. minted_of b k -ℤ burnt_of b k) n.held _ _ j c.in-Some.amount.now (map seen iter) (map seen rest) there
          (c.in_ok-sums.ensures.held ∙ ap (λ (x : Totals). n.held +ℤ (x.minted -ℤ x.burnt)) t) c.tickets.invariant.held;
    }
