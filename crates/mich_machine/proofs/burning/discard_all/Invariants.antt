use Rattle.std.proofs.Common.{◌≡◌, ◌++◌, map}
use Rattle.std.specs.Map.{values_of}
use Rattle.mich_term.specs.TicketView.{held}
use Rattle.mich_machine.specs.Returned.{handed}
use Rattle.mich_machine.proofs.burning.discard_all.Given as goal

abbrev pub invariant-loop-operation : goal.invariant-loop-operation
invariant-loop-operation l = map held l.told.tickets ++ handed (values_of l.operation-iterator) ≡ handed (values_of l.fn.operations.entries)
