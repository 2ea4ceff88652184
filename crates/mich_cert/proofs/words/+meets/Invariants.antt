use Rattle.std.proofs.Common.{length}
use Rattle.mich_cert.proofs.words.+meets.Given as goal

abbrev pub decreases-meets : goal.decreases-meets
decreases-meets l = length l.types.now
