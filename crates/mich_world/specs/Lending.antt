-- Parts of a world, lent.
use Rattle.std.specs.Borrow.{Lends, MutBor, Fml}
use Rattle.mich_tickets.specs.Books.{State}
use Rattle.mich_tickets.specs.contracts.ledger.Ledger as ledger
use Rattle.mich_bigmap.specs.Stored.{Stored}
use Rattle.mich_bigmap.specs.contracts.store.Store as store
use Rattle.mich_world.specs.World.{World, with_ledger, with_store}
use Rattle.mich_world.specs.contracts.world.World.{the_row}

-- the world ends with the part as it was left
abbrev pub LendsLedger : MutBor World → MutBor State → Fml
LendsLedger w l = Lends the_row ledger.the_row w l (with_ledger w.now)

abbrev pub LendsStore : MutBor World → MutBor Stored → Fml
LendsStore w s = Lends the_row store.the_row w s (with_store w.now)
