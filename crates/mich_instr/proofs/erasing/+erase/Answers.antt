use Rattle.std.proofs.Common.{ap, ◌∙◌}
use Rattle.rules_text.specs.nodes.Tree.{seq}
use Rattle.mich_instr.proofs.ErasedCode.{all_plain}
use Rattle.mich_instr.proofs.Shown.{erased_done}
use Rattle.mich_instr.proofs.erasing.+erase.Goals as goal

pub erase-returns-clause-written : goal.erase-returns-clause-written
erase-returns-clause-written t c = erased_done _ _ _ _ c.loop-instr.invariant c.loop-instr-test.false c.as_slice-instr-items.ensures

pub erase-returns-clause-plain : goal.erase-returns-clause-plain
erase-returns-clause-plain t c =
    λ d ts A B h. erased_done _ _ _ _ c.loop-instr.invariant c.loop-instr-test.false c.as_slice-instr-items.ensures ∙ ap seq (all_plain h)
