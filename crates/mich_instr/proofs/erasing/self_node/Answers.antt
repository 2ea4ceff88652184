use Rattle.mich_instr.proofs.Shown.{prim_of}
use Rattle.mich_instr.proofs.erasing.self_node.Goals as goal

pub returns : goal.returns
returns c = prim_of _ _ _ _ c.in_ok-name.ensures c.in_ok-annots.ensures c.new-args.ensures
