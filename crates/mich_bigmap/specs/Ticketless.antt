-- Stores that hold no tickets: the values of a big map that shares can be duplicated (Octez "Tickets").
use Rattle.std.specs.Prelude.{◌≡◌, []}
use Rattle.std.specs.List.{AllByRecursion}
use Rattle.rules_data.specs.values.Tickets.{pair_tickets}
use Rattle.mich_term.specs.ValueView.{put_pairs}
use Rattle.mich_bigmap.specs.Bases.{Base, Bases, Changes}

-- what changes put holds no ticket
abbrev pub PutNoTickets : Changes → Type 0
PutNoTickets cs = pair_tickets (put_pairs cs) ≡ []

-- the same of a base
abbrev pub PutsNoTickets : Base → Type 0
PutsNoTickets b = PutNoTickets b.changes

abbrev pub HoldNoTickets : Bases → Type 0
HoldNoTickets bs = AllByRecursion PutsNoTickets bs
