use Rattle.std.specs.Vec.Iter.{into_iter_items}
use Rattle.mich_world.specs.Restoring.{MayPutAccounts, PutsAccounts}
use Rattle.mich_world.specs.World.{World}
use Rattle.mich_world.proofs.world.World.put_accounts.Given as goal

abbrev pub invariant-loop-account : goal.invariant-loop-account
invariant-loop-account l = record {
  may : MayPutAccounts (into_iter_items l.account-iterator) l.self;
  goes : (w : World) → PutsAccounts (into_iter_items l.account-iterator) l.self w → PutsAccounts l.fn.accounts l.fn.self w;
}
