use Rattle.std.specs.Vec.Iter.{into_iter_items}
use Rattle.mich_world.specs.Restoring.{MayPutContracts, PutsContracts}
use Rattle.mich_world.specs.World.{World}
use Rattle.mich_world.proofs.world.World.put_contracts.Given as goal

abbrev pub invariant-loop-saved : goal.invariant-loop-saved
invariant-loop-saved l = record {
  may : MayPutContracts (into_iter_items l.saved-iterator) l.self;
  goes : (w : World) → PutsContracts (into_iter_items l.saved-iterator) l.self w → PutsContracts l.fn.contracts l.fn.self w;
}
