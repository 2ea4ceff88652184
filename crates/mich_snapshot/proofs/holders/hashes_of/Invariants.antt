use Rattle.std.proofs.Common.{map, take}
use Rattle.mich_world.specs.Restoring.{contract_of}
use Rattle.mich_snapshot.specs.Holders.{AreHashes}
use Rattle.mich_snapshot.proofs.holders.hashes_of.Given as goal

abbrev pub invariant-loop-saved : goal.invariant-loop-saved
invariant-loop-saved l = AreHashes (map contract_of (take l.saved-index l.saved-items)) l.hashes.keys
