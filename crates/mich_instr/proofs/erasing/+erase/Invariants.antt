use Rattle.std.proofs.Common.{◌≡◌, take, map}
use Rattle.mich_base.specs.View.{tree}
use Rattle.mich_instr.specs.Erased.{erased}
use Rattle.mich_instr.specs.View.{code}
use Rattle.mich_instr.proofs.erasing.+erase.Given as goal

abbrev pub invariant-erase-loop-instr : goal.invariant-erase-loop-instr
invariant-erase-loop-instr l = map tree l.nodes ≡ map (λ i. erased (code i)) (take l.instr-index l.instr-items)
