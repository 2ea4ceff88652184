use Rattle.std.proofs.Common.{length}
use Rattle.mich_bigmap.proofs.merging.+merged.Given as goal

abbrev pub decreases-merged : goal.decreases-merged
decreases-merged l = length l.layers.now
