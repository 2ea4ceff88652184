use Rattle.std.proofs.Common.{◌≡◌, length}
use Rattle.mich_bigmap.specs.Merged.{all_with}
use Rattle.mich_bigmap.proofs.merging.woven.Given as goal

abbrev pub invariant-write : goal.invariant-write
invariant-write l = all_with l.left l.all ≡ all_with l.fn.changes l.lower

abbrev pub decreases-write : goal.decreases-write
decreases-write l = length l.left
