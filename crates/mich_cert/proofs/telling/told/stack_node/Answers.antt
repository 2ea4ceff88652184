use Rattle.std.proofs.Common.{ap, ◌∙◌, arith}
use Rattle.rules_text.specs.nodes.Tree.{seq}
use Rattle.mich_control.proofs.ForCallers.{tree_seq}
use Rattle.mich_cert.specs.telling.Length.{stack_weight}
use Rattle.mich_cert.proofs.telling_lemmas.Lengths.{stack_whole}
use Rattle.mich_cert.proofs.telling.told.stack_node.Goals as goal

pub returns : goal.returns
returns c =
    let w = ap stack_weight c.in_default.ensures in
    let r = c.types.invariant.room in
    (tree_seq _ ∙ ap seq (stack_whole _ _ _ c.types.invariant.nodes c.in_default.ensures), omega (arith, w, r))
