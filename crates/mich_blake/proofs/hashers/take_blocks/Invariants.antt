use Rattle.std.proofs.Common.{◌≡◌}
use Rattle.rules_text.specs.hash.Blake2b.{hash_after}
use Rattle.mich_blake.proofs.hashers.take_blocks.Given as goal

abbrev pub invariant-blocks-2 : goal.invariant-blocks-2
invariant-blocks-2 l = l.hash ≡ hash_after l.fn.hash l.taken l.bytes l.i
