use Rattle.std.proofs.Common.{◌≡◌, ◌+◌, ◌++◌, length, map}
use Rattle.rules_data.specs.types.Printing.{node_of}
use Rattle.mich_base.specs.View.{tree}
use Rattle.mich_overload.specs.View.{kinds}
use Rattle.mich_cert.specs.telling.Length.{stack_weight}
use Rattle.mich_cert.proofs.telling.told.stack_node.Given as goal

-- the nodes of the types so far and of those below are those of all; so the room
abbrev pub invariant-types : goal.invariant-types
invariant-types l = record {
  nodes : map tree l.nodes ++ map node_of (kinds l.below) ≡ map node_of (kinds l.types);
  room : l.left + stack_weight (kinds l.types) ≡ l.fn.room + stack_weight (kinds l.below);
}

abbrev pub decreases-types : goal.decreases-types
decreases-types l = length (kinds l.below)
