use Rattle.std.proofs.Common.{◌≡◌, take, map}
use Rattle.mich_base.specs.View.{tree}
use Rattle.mich_instr.specs.Plain.{bare}
use Rattle.mich_control.proofs.plain.+bare.Given as goal

abbrev pub invariant-bare_nodes-loop-node : goal.invariant-bare_nodes-loop-node
invariant-bare_nodes-loop-node l = map tree l.copies ≡ map (λ n. bare (tree n)) (take l.node-index l.node-items)
