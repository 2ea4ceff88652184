use Rattle.std.proofs.Common.{◌≡◌, ◌+◌, ◌*◌, ◌-◌, length, map}
use Rattle.rules_text.specs.binary.Reading.{node_at, arguments_at, nodes_within}
use Rattle.mich_base.specs.View.{tree}
use Rattle.mich_binary.specs.Results.{spot}
use Rattle.mich_binary.proofs.Loops.{with_front}
use Rattle.mich_binary.proofs.nodes.+node.Given as goal

abbrev pub decreases-node_at : goal.decreases-node_at
decreases-node_at l = 5 * l.levels

abbrev pub decreases-nodes_within : goal.decreases-nodes_within
decreases-nodes_within l = 5 * l.levels + 1

abbrev pub decreases-arguments_at : goal.decreases-arguments_at
decreases-arguments_at l = 5 * l.levels + 1

abbrev pub decreases-nodes_at : goal.decreases-nodes_at
decreases-nodes_at l = 5 * l.levels + 2

abbrev pub decreases-application_at : goal.decreases-application_at
decreases-application_at l = 5 * l.levels + 3

abbrev pub decreases-many_at : goal.decreases-many_at
decreases-many_at l = 5 * l.levels + 3

abbrev pub decreases-node_by : goal.decreases-node_by
decreases-node_by l = 5 * l.levels + 4

abbrev pub invariant-arguments_at-loop : goal.invariant-arguments_at-loop
invariant-arguments_at-loop l =
    with_front (map tree l.nodes) (arguments_at (node_at l.levels) (l.count - l.counter) (spot l.here)) ≡ arguments_at (node_at l.levels) l.count (spot l.cursor)

abbrev pub invariant-nodes_within-loop : goal.invariant-nodes_within-loop
invariant-nodes_within-loop l =
    with_front (map tree l.nodes) (nodes_within (node_at l.levels) (length l.field.left.now - l.counter) (spot l.here)) ≡ nodes_within (node_at l.levels) (length l.field.left.now) (spot l.field)
