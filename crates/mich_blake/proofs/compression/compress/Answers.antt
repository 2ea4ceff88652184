use Rattle.std.proofs.Common.{refl}
use Rattle.rules_text.specs.hash.Blake2b.{compress}
use Rattle.mich_blake.proofs.compression.compress.Goals as goal

pub returns : goal.returns
unfolding compress
returns c =
    rw (c.folded.ensures, c.rounds.ensures, c.start_vector-v.ensures, c.block_words-m.ensures) refl
