use Rattle.mich_control.proofs.Views.{prim_bare}
use Rattle.mich_control.proofs.Written.{bares_done}
use Rattle.mich_control.proofs.plain.+bare.Goals as goal

pub bare_nodes-returns : goal.bare_nodes-returns
bare_nodes-returns t c = bares_done _ _ _ _ c.loop-node.invariant c.loop-node-test.false c.as_slice-node-items.ensures

pub bare_node-returns-in_ok-args-in-Prim : goal.bare_node-returns-in_ok-args-in-Prim
bare_node-returns-in_ok-args-in-Prim t c =
    prim_bare _ c.in-Prim.app _ c.in-Prim.is c.in_ok-name-in-Prim.ensures c.new-annots.ensures c.in_ok-args-in-Prim.ensures
