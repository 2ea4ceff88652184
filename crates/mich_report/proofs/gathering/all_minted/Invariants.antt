use Rattle.std.proofs.Common.{◌≡◌, pos}
use Rattle.rules_data.specs.values.Tickets.{Identity}
use Rattle.mich_report.specs.Amounts.{amount_in, minted_of_line, settled}
use Rattle.mich_report.proofs.gathering.all_minted.Given as goal

-- with the lines that are left, all is written
abbrev pub invariant-lines : goal.invariant-lines
invariant-lines l = (j : Identity) → settled minted_of_line j l.id-iterator (amount_in j l.minted) ≡ settled minted_of_line j l.lines.entries (pos 0)
