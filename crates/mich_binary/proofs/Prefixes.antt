-- How long the longest front is whose bytes pass a test.
use Rattle.std.specs.List.{prefix_len}
use Rattle.std.proofs.lemmas.List.Sums.{prefix_len-le-length}

pub ruleset prefix_laws = (prefix_len-le-length)
