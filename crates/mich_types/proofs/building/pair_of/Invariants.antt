use Rattle.std.proofs.Common.{◌≡◌, ◌++◌, ◌∷◌, [], map, length}
use Rattle.mich_base.specs.TypeView.{kind}
use Rattle.mich_types.specs.Built.{pair_of}
use Rattle.mich_types.proofs.building.pair_of.Given as goal

abbrev pub invariant-parts : goal.invariant-parts
invariant-parts l = pair_of (map kind l.left ++ kind l.ty ∷ []) ≡ pair_of (map kind l.fn.parts)

abbrev pub decreases-parts : goal.decreases-parts
decreases-parts l = length l.left
