use Rattle.std.proofs.Common.{◌≡◌}
use Rattle.std.specs.Prelude.{is_none}
use Rattle.std.specs.Vec.Iter.{into_iter_items}
use Rattle.rules_code.specs.typing.Literals.{fault_of_bodies}
use Rattle.mich_data.specs.View.{all_pending}
use Rattle.mich_literals.specs.unpacking.Pending.{AreBodies}
use Rattle.mich_literals.proofs.unpacking.trying.typed_bodies.Given as goal

abbrev pub invariant-loop-item : goal.invariant-loop-item
invariant-loop-item l = record {
  bodies : AreBodies (all_pending (into_iter_items l.item-iterator));
  same : is_none (fault_of_bodies (all_pending (into_iter_items l.item-iterator))) ≡ is_none (fault_of_bodies (all_pending l.fn.pending));
}
