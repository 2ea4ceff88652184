use Rattle.std.proofs.Common.{◌+◌, ◌*◌}
use Rattle.mich_saved.proofs.types.+types.Given as goal

abbrev pub decreases-type_within : goal.decreases-type_within
decreases-type_within l = 2 * l.levels

abbrev pub decreases-option_within : goal.decreases-option_within
decreases-option_within l = 2 * l.levels + 1

abbrev pub decreases-two_within : goal.decreases-two_within
decreases-two_within l = 2 * l.levels + 1
