use Rattle.std.proofs.Common.{◌≡◌, ◌++◌, map}
use Rattle.std.specs.List.{flat_map}
use Rattle.rules_files.specs.snapshots.Spelling.{counted, total_spelling}
use Rattle.mich_report.specs.Amounts.{seen}
use Rattle.mich_snapshot.specs.Saved.{total_in}
use Rattle.mich_snapshot.proofs.saving.put_totals.Given as goal

-- the tickets so far, and those that are left
abbrev pub invariant-tickets : goal.invariant-tickets
invariant-tickets l =
    l.out.items ++ flat_map total_spelling (map (λ e. total_in l.ledger.books.present e.0) (map seen l.ticket-iterator))
    ≡ l.fn.out.items ++ counted total_spelling (map (λ e. total_in l.ledger.books.present e.0) (map seen l.minted))
