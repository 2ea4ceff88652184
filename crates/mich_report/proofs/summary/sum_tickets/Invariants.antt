use Rattle.std.proofs.Common.{◌≡◌, ◌+ℤ◌, ◌-ℤ◌, map}
use Rattle.mich_tickets.specs.Sums.{minted_of, burnt_of}
use Rattle.mich_report.specs.Amounts.{seen}
use Rattle.mich_report.specs.Summed.{over_entries}
use Rattle.mich_report.proofs.summary.sum_tickets.Given as goal

-- the tickets so far, and those that are left
abbrev pub invariant-tickets : goal.invariant-tickets
invariant-tickets l =
    let b = l.ledger.books.present in
    record {
      minted : l.sums.minted +ℤ over_entries (minted_of b) (map seen l.id-iterator) ≡ over_entries (minted_of b) (map seen l.minted);
      burnt : l.sums.burnt +ℤ over_entries (burnt_of b) (map seen l.id-iterator) ≡ over_entries (burnt_of b) (map seen l.minted);
      held : l.sums.held +ℤ over_entries (λ j. minted_of b j -ℤ burnt_of b j) (map seen l.id-iterator) ≡ over_entries (λ j. minted_of b j -ℤ burnt_of b j) (map seen l.minted);
    }
