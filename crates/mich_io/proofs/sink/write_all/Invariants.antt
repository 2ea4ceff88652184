use Rattle.std.proofs.Common.{◌≡◌, ℕ, List, ◌++◌, ◌≤◌, length}
use Rattle.std.specs.Io.KnownBytes.{Appends}
use Rattle.mich_io.specs.Handed.{Hands, Leaves}
use Rattle.mich_io.proofs.sink.write_all.Given as goal

abbrev pub invariant-pieces : goal.invariant-pieces
invariant-pieces g l =
    let sink = g.K.Sink in
    record {
      later : sink.faults l.fn.out ≤ sink.faults l.out;
      bytes : (front : List ℕ) × (l.bytes ≡ front ++ l.rest) × Appends (sink.written l.fn.out) (sink.written l.out) front;
      handed : (ps : List (List ℕ)) × Hands (sink.handed l.fn.out) (sink.handed l.out) ps × Leaves l.bytes ps l.rest;
    }

abbrev pub decreases-pieces : goal.decreases-pieces
decreases-pieces g l = length l.rest
