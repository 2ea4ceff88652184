-- What a hasher keeps of the bytes that it was fed.
use Rattle.std.specs.Prelude.{ℕ, ◌+◌, ◌*◌, List, [], ◌++◌, length, drop}
use Rattle.rules_text.specs.hash.Blake2b.{blocks_before_last, hash_after, initial_hash}

-- The length of the digest, the hash value of the blocks that were taken, how many bytes these were,
-- and the bytes behind them, at most a block.
pub record Hasher : Type 0 where
  pub size : ℕ
  pub hash : List ℕ
  pub taken : ℕ
  pub pending : List ℕ

-- how many bytes a hasher was fed
abbrev pub count_of : Hasher → ℕ
count_of s = s.taken + length s.pending

-- a hasher that is fed more bytes: all blocks are taken but the last
unfoldable pub fed : Hasher → List ℕ → Hasher
fed s more =
    let bytes = s.pending ++ more in
    let n = blocks_before_last bytes in
    record {
      size = s.size;
      hash = hash_after s.hash s.taken bytes n;
      taken = s.taken + n * 128;
      pending = drop (n * 128) bytes;
    }

-- a hasher for digests of `len` bytes that was fed the bytes m
unfoldable pub hasher_of : ℕ → List ℕ → Hasher
hasher_of len m = fed (record { size = len; hash = initial_hash len; taken = 0; pending = [] }) m
