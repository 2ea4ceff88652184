use Rattle.std.proofs.Common.{◌≡◌, ℕ, List, map, Some}
use Rattle.std.specs.Vec.Iter.{into_iter_items}
use Rattle.rules_world.specs.world.Runs.{numbers_in}
use Rattle.mich_stack.specs.Views.{Sight, seen}
use Rattle.mich_term.specs.View.{vals_of}
use Rattle.mich_machine.specs.Returned.{picks}
use Rattle.mich_machine.proofs.Picking.{IsOnWay}
use Rattle.mich_machine.proofs.returning.pick.Given as goal

abbrev pub invariant-loop-value : goal.invariant-loop-value
invariant-loop-value l =
    (big : Sight) (ns : List ℕ) → numbers_in (vals_of (map (seen big) l.fn.numbers)) ≡ Some ns →
    IsOnWay (picks l.fn.all.entries ns) (vals_of (map (seen big) (into_iter_items l.value-iterator))) l.picked l.all.entries
