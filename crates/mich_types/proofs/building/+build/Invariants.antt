use Rattle.std.proofs.Common.{◌≡◌, take, map}
use Rattle.mich_base.specs.View.{tree}
use Rattle.mich_base.specs.TypeView.{kind}
use Rattle.mich_types.specs.Built.{built}
use Rattle.mich_types.proofs.building.+build.Given as goal

abbrev pub invariant-build_all-loop-node : goal.invariant-build_all-loop-node
invariant-build_all-loop-node l = map kind l.types ≡ map (λ n. built (tree n)) (take l.node-index l.node-items)
