use Rattle.std.proofs.Common.{◌≡◌, ◌*◌, length, take}
use Rattle.std.specs.List.{flat_map}
use Rattle.std.specs.Int.{to_le_bytes, w64}
use Rattle.mich_blake.proofs.digests.hash_bytes.Given as goal

abbrev pub invariant-words : goal.invariant-words
invariant-words l = (length l.bytes ≡ 64) × (take (8 * l.i) l.bytes ≡ flat_map (to_le_bytes w64) (take l.i l.hash))
