use Rattle.std.proofs.Common.{refl}
use Rattle.rules_text.specs.hash.Blake2b.{mixed}
use Rattle.mich_blake.proofs.compression.mix.Goals as goal

pub returns : goal.returns
unfolding mixed
returns c =
    rw (c.rotate_right-b2.ensures, c.rotate_right-d2.ensures, c.rotate_right-b1.ensures, c.rotate_right-d1.ensures) refl
