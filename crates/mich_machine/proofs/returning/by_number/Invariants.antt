use Rattle.std.proofs.Common.{◌≡◌, ◌++◌}
use Rattle.std.specs.Vec.Iter.{into_iter_items}
use Rattle.mich_machine.specs.Returned.{by_number}
use Rattle.mich_machine.proofs.returning.by_number.Given as goal

abbrev pub invariant-loop-operation : goal.invariant-loop-operation
invariant-loop-operation l = record {
  so_far : l.all.entries ≡ by_number l.yielded;
  place : l.yielded ++ into_iter_items l.operation-iterator ≡ l.fn.issued;
}
