use Rattle.std.proofs.Common.{◌≡◌, ◌++◌, map}
use Rattle.std.specs.List.{flat_map}
use Rattle.rules_files.specs.snapshots.Spelling.{counted, holding_spelling}
use Rattle.mich_report.specs.Amounts.{seen}
use Rattle.mich_snapshot.proofs.saving.put_holdings.Given as goal

-- the holdings so far, and those that are left
abbrev pub invariant-holdings : goal.invariant-holdings
invariant-holdings l =
    l.out.items ++ flat_map holding_spelling (map seen l.ticket-iterator) ≡ l.fn.out.items ++ counted holding_spelling (map seen l.held)
