use Rattle.mich_types.proofs.Lists.{built_all_whole}
use Rattle.mich_types.proofs.building.+build.Goals as goal

pub build_all-returns : goal.build_all-returns
build_all-returns t c = built_all_whole _ _ _ _ c.loop-node.invariant c.loop-node-test.false c.as_slice-node-items.ensures
