use Rattle.std.proofs.Common.{◌≡◌, ◌++◌, map}
use Rattle.rules_world.specs.lines.Nodes.{line}
use Rattle.mich_report.specs.Amounts.{seen}
use Rattle.mich_report.specs.State.{ticket_of}
use Rattle.mich_report.proofs.state.add_tickets.Given as goal

-- the tickets so far, and those that are left
abbrev pub invariant-tickets : goal.invariant-tickets
invariant-tickets l =
    l.lines ++ map line (map (ticket_of l.ledger.books.present) (map seen l.id-iterator))
    ≡ l.fn.lines ++ map line (map (ticket_of l.ledger.books.present) (map seen l.minted))
