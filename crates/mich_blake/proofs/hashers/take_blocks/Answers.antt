use Rattle.std.proofs.Common.{◌≡◌, ◌+◌, ◌*◌, ◌-◌, arith, refl}
use Rattle.rules_text.specs.hash.Blake2b.{hash_after}
use Rattle.mich_blake.proofs.Feeding.{next_block}
use Rattle.mich_blake.proofs.hashers.take_blocks.Goals as goal

pub blocks-2-init : goal.blocks-2-init
unfolding hash_after
blocks-2-init c = refl

pub blocks-2-preserved : goal.blocks-2-preserved
blocks-2-preserved c =
    let i = c.blocks-2.i in
    let width : i * 128 + 128 - i * 128 ≡ 128 = omega arith in
    next_block c.args.hash.now c.args.taken c.args.bytes.now i _ _ _ _ c.blocks-2.invariant (rw width refl) (omega arith) c.compress.ensures
