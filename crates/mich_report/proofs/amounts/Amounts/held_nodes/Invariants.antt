use Rattle.std.proofs.Common.{◌≡◌, ◌++◌, map}
use Rattle.rules_world.specs.lines.Nodes.{held_node}
use Rattle.mich_base.specs.View.{tree}
use Rattle.mich_report.specs.Amounts.{seen}
use Rattle.mich_report.proofs.amounts.Amounts.held_nodes.Given as goal

-- the tickets so far, and those that are left
abbrev pub invariant-tickets : goal.invariant-tickets
invariant-tickets l = map tree l.nodes ++ map held_node (map seen l.id-iterator) ≡ map held_node (map seen l.self)
