use Rattle.std.proofs.Common.{◌≡◌, ℕ, pos, List}
use Rattle.rules_data.specs.values.Tickets.{Identity}
use Rattle.mich_report.specs.Amounts.{held_in, held_of_line, settled}
use Rattle.mich_report.proofs.gathering.held_by_accounts.Given as goal

-- with the lines that are left, all is written
abbrev pub invariant-lines : goal.invariant-lines
invariant-lines l = (o : List ℕ) (j : Identity) →
    settled (held_of_line o) j l.id-iterator (held_in l.purses.entries o j) ≡ settled (held_of_line o) j l.lines.entries (pos 0)
