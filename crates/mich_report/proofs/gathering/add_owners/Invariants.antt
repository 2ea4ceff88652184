use Rattle.std.proofs.Common.{◌≡◌, ℕ, List}
use Rattle.rules_data.specs.values.Tickets.{Identity}
use Rattle.mich_report.specs.Amounts.{held_in, paid}
use Rattle.mich_report.proofs.gathering.add_owners.Given as goal

-- with the owners that are left, all is written
abbrev pub invariant-owners : goal.invariant-owners
invariant-owners l = (o : List ℕ) (j : Identity) →
    paid o j l.id l.owner-iterator (held_in l.purses.entries o j) ≡ paid o j l.id l.held (held_in l.fn.purses.entries o j)
