use Rattle.std.proofs.Common.{◌≡◌, ◌++◌}
use Rattle.std.specs.Vec.Iter.{into_iter_items}
use Rattle.rules_data.specs.values.Literals.{claims}
use Rattle.mich_data.specs.View.{all_pending}
use Rattle.mich_check.proofs.literals.claims_of.Given as goal

abbrev pub invariant-loop-item : goal.invariant-loop-item
invariant-loop-item l = all_pending l.kept ++ claims (all_pending (into_iter_items l.item-iterator)) ≡ claims (all_pending l.fn.pending)
