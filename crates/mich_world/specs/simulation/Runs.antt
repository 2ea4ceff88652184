-- What code does to a world before the new storage of its contract is kept.
use Rattle.std.specs.Prelude.{◌≡◌, List}
use Rattle.rules_code.specs.steps.Changes.{Change}
use Rattle.mich_bigmap.specs.Extended.{Extends}
use Rattle.mich_tickets.specs.Effects.{Adds}
use Rattle.mich_world.specs.World.{World}

-- bases of big maps are added, and the ledger is told these changes of tickets
pub record Runs (changes : List Change) (old new : World) : Type 0 where
  pub chain : new.chain ≡ old.chain
  pub level : new.level ≡ old.level
  pub moment : new.moment ≡ old.moment
  pub funds : new.funds.present ≡ old.funds.present
  pub adds : Adds changes old.ledger.books.present new.ledger.books.present
  pub bases : Extends old.store.bases.present new.store.bases.present
