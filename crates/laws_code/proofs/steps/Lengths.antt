-- The lengths of digests.
use Rattle.std.proofs.Common.{◌≡◌, ℕ, List, length, take, drop, refl}
use Rattle.std.specs.Prelude.{◌*◌, ◌+◌, true}
use Rattle.std.specs.Int.{w64, to_le_bytes}
use Rattle.std.specs.List.{flat_map}
use Rattle.rules_text.specs.hash.Blake2b.{blake, compress, folded, hash_after, initial_hash, blocks_before_last, rounds, start_vector, block_words, padded_block}

digest_32 : (h w : List ℕ) → length (take 32 (flat_map (to_le_bytes w64) (folded h w))) ≡ 32
digest_32 h w = refl

digest_20 : (h w : List ℕ) → length (take 20 (flat_map (to_le_bytes w64) (folded h w))) ≡ 20
digest_20 h w = refl

-- the last hash value and the vector that is folded into it
abbrev before_last : ℕ → List ℕ → List ℕ
before_last len m = hash_after (initial_hash len) 0 m (blocks_before_last m)

abbrev last_vector : ℕ → List ℕ → List ℕ
last_vector len m =
    let n = blocks_before_last m in
    let b = drop (n * 128) m in
    rounds (start_vector (before_last len m) (n * 128 + length b) true) (block_words (padded_block b)) 12

pub blake_32 : (m : List ℕ) → length (blake 32 m) ≡ 32
unfolding blake compress
blake_32 m = digest_32 (before_last 32 m) (last_vector 32 m)

pub blake_20 : (m : List ℕ) → length (blake 20 m) ≡ 20
unfolding blake compress
blake_20 m = digest_20 (before_last 20 m) (last_vector 20 m)
