use Rattle.std.proofs.Common.{map}
use Rattle.mich_bigmap.specs.Kept.{all_of}
use Rattle.mich_world.specs.Storages.{named_in}
use Rattle.mich_world.proofs.Noting.{NotedSoFar}
use Rattle.mich_world.proofs.keeping.note_storages.Given as goal

abbrev pub invariant-contracts : goal.invariant-contracts
invariant-contracts l = NotedSoFar (all_of (map named_in l.hash-iterator)) (all_of (map named_in l.contracts.entries)) l.fn.store l.store
